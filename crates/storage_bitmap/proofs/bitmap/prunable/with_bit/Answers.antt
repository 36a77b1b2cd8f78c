use Rattle.std.proofs.Common.{w8}
use Rattle.storage_bitmap.proofs.bitmap.prunable.with_bit.Goals as goal
use Rattle.std.proofs.lemmas.Nat.Bits.{bit_at_set_same, bit_at_set_other, bit_at_clear_same, bit_at_clear_other}

pub returns-then-bit-clause-there : goal.returns-then-bit-clause-there
returns-then-bit-clause-there c = rw c.if-bit.true (bit_at_set_same w8 c.args.byte c.args.place c.requires)

pub returns-then-bit-clause-others : goal.returns-then-bit-clause-others
returns-then-bit-clause-others c = λ i h d. bit_at_set_other w8 c.args.byte c.args.place c.requires i d

pub returns-else-bit-clause-there : goal.returns-else-bit-clause-there
returns-else-bit-clause-there c = rw c.if-bit.false (bit_at_clear_same w8 c.args.byte c.args.place c.requires)

pub returns-else-bit-clause-others : goal.returns-else-bit-clause-others
returns-else-bit-clause-others c = λ i h d. bit_at_clear_other w8 c.args.byte c.args.place c.requires i h d
