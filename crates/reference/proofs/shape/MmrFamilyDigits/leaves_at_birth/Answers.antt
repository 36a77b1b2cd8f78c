use Rattle.std.proofs.Common.{arith, ◌+◌, ◌^◌}
use Rattle.reference.proofs.Digits.{small_height}
use Rattle.reference.proofs.shape.MmrFamilyDigits.leaves_at_birth.Goals as goal

pub power-requires : goal.power-requires
power-requires c = omega (arith, small_height c.args.first c.args.height (2 ^ 62 + 2 ^ 61) c.requires (omega arith))
