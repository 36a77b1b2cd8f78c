use Rattle.std.proofs.Common.{arith, ◌≡◌, suc, ◌+◌, ◌-◌, ◌^◌}
use Rattle.reference.proofs.Digits.{small_height, half}
use Rattle.reference.proofs.shape.MmbFamilyDigits.leaves_at_birth.Goals as goal

pub power-requires : goal.power-requires
power-requires c = omega (arith, small_height c.args.first c.args.height (2 ^ 62 + 2 ^ 61) c.requires (omega arith))

pub overflow_mul-result : goal.overflow_mul-result
overflow_mul-result c = let s : c.args.height ≡ suc (c.args.height - 1) = omega arith in
    omega (arith, half (c.args.height - 1) c.args.height s)

pub overflow_add-result-else-height-eq0 : goal.overflow_add-result-else-height-eq0
overflow_add-result-else-height-eq0 c = let s : c.args.height ≡ suc (c.args.height - 1) = omega arith in
    omega (arith, half (c.args.height - 1) c.args.height s)
