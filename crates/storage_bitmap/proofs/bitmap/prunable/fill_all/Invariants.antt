use Rattle.std.proofs.Common.{◌≡◌, ◌+◌, take}
use Rattle.storage_bitmap.specs.Packed.{AreAppended}
use Rattle.storage_bitmap.proofs.bitmap.prunable.fill_all.Given as goal

abbrev pub invariant-loop-bit : goal.invariant-loop-bit
invariant-loop-bit l = record {
  at : l.next ≡ l.place + l.bit-index;
  so_far : AreAppended l.fn.bytes.items l.bytes.items l.place (take l.bit-index l.bits);
}
