use Rattle.std.proofs.Common.{◌≡◌, ◌++◌, map, take}
use Rattle.storage_current.specs.CurrentWire.{as_is}
use Rattle.storage_merkle.specs.ProofWire.{joined_text}
use Rattle.storage_sync.proofs.sync.lists.write_bytes.Given as goal

abbrev pub invariant-loop-chunk : goal.invariant-loop-chunk
invariant-loop-chunk l = l.out.items ≡ l.fn.out.items ++ joined_text (take l.chunk-index (map as_is l.chunks))
