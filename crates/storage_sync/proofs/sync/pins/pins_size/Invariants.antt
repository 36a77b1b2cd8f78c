use Rattle.std.proofs.Common.{◌≡◌, ◌+◌, length, map, take}
use Rattle.storage_codec.specs.Parts.{size_of, varint_text}
use Rattle.storage_current.specs.CurrentWire.{as_is}
use Rattle.storage_merkle.specs.ProofWire.{joined_text}
use Rattle.storage_sync.proofs.sync.pins.pins_size.Given as goal

abbrev pub invariant-loop-pin : goal.invariant-loop-pin
invariant-loop-pin g l = l.size ≡ size_of (length (varint_text (length l.pins))
    + length (joined_text (take l.pin-index (map as_is (map g.D.Digest.text l.pins)))))
