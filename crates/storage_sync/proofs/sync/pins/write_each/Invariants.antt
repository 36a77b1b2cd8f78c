use Rattle.std.proofs.Common.{◌≡◌, ◌++◌, map, take}
use Rattle.storage_current.specs.CurrentWire.{as_is}
use Rattle.storage_merkle.specs.ProofWire.{joined_text}
use Rattle.storage_sync.proofs.sync.pins.write_each.Given as goal

abbrev pub invariant-loop-pin : goal.invariant-loop-pin
invariant-loop-pin g l =
    l.out.items ≡ l.fn.out.items ++ joined_text (take l.pin-index (map as_is (map g.D.Digest.text l.pins)))
