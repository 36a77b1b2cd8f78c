use Rattle.std.proofs.Common.{refl, ◌/◌, get_or, ◌%◌}
use Rattle.std.proofs.lemmas.Nat.Bits.{shr_and_one}
use Rattle.storage_bitmap.specs.Packed.{bit_in}
use Rattle.storage_sync.proofs.Bits.{past_bits}
use Rattle.storage_sync.proofs.sync.bits.bit_in.Goals as goal

pub returns-then-place-bytes : goal.returns-then-place-bytes
returns-then-place-bytes c = past_bits c.args.bytes.now c.args.place c.if-place-bytes.true

pub returns : goal.returns
unfolding bit_in
returns c = rw (shr_and_one (get_or c.args.bytes.now (c.args.place / 8) 0) (c.args.place % 8)) refl
