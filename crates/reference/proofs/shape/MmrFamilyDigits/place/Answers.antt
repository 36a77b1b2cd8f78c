use Rattle.std.proofs.Common.{arith, ◌+◌, ◌^◌}
use Rattle.reference.proofs.Digits.{small_height, half}
use Rattle.reference.proofs.shape.MmrFamilyDigits.place.Goals as goal

pub overflow_add-height : goal.overflow_add-height
overflow_add-height c =
    omega (arith, small_height c.args.first c.args.height (2 ^ 62 + 2 ^ 61) c.requires (omega arith))

pub power-requires : goal.power-requires
power-requires c = omega (arith, small_height c.args.first c.args.height (2 ^ 62 + 2 ^ 61) c.requires (omega arith))

pub overflow_add-without_peaks : goal.overflow_add-without_peaks
overflow_add-without_peaks c = omega (arith, half c.args.height (c.args.height + 1) (omega arith))
