use Rattle.std.proofs.Common.{refl}
use Rattle.storage_bitmap.proofs.Bits.{roomy}
use Rattle.storage_bitmap.proofs.bitmap.prunable.make_room.Goals as goal

pub returns-in_ok-push_zero_bytes-clause-ok : goal.returns-in_ok-push_zero_bytes-clause-ok
returns-in_ok-push_zero_bytes-clause-ok g c =
    rw (c.in_ok-push_zero_bytes.ensures.ok)
    (roomy g.row.N c.args.bytes.now.items c.args.kept (c.requires.whole.0 (c.if-is_multiple_of.ensures.0 refl)))
