use Rattle.std.proofs.Common.{refl, ◌/◌, get_or, ◌%◌}
use Rattle.storage_bitmap.proofs.bitmap.prunable.is_set.Goals as goal
use Rattle.std.proofs.lemmas.Nat.Bits.{shr_and_one}
use Rattle.storage_bitmap.specs.Packed.{bit_in}

pub returns : goal.returns
unfolding bit_in
returns c = rw (shr_and_one (get_or c.args.bytes.now (c.args.place / 8) 0) (c.args.place % 8)) refl
