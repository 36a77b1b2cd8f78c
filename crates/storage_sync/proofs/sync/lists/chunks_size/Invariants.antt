use Rattle.std.proofs.Common.{◌≡◌, ◌+◌, length, map, take}
use Rattle.storage_codec.specs.Parts.{size_of, varint_text}
use Rattle.storage_current.specs.CurrentWire.{as_is}
use Rattle.storage_merkle.specs.ProofWire.{joined_text}
use Rattle.storage_sync.proofs.sync.lists.chunks_size.Given as goal

abbrev pub invariant-loop-chunk : goal.invariant-loop-chunk
invariant-loop-chunk l = l.size
    ≡ size_of (length (varint_text (length l.chunks)) + length (joined_text (take l.chunk-index (map as_is l.chunks))))
