use Rattle.std.proofs.Common.{arith, ◌^◌, rules}
use Rattle.reference.proofs.Digits.{small_height}
use Rattle.std.proofs.lemmas.Grind.{common_steps}
use Rattle.reference.proofs.node.Node.right.Goals as goal

pub power-requires : goal.power-requires
power-requires c =
    omega (arith, small_height c.self.inside.first c.self.inside.height (2 ^ 62) c.self.invariant (omega arith))

pub overflow_add-result : goal.overflow_add-result
overflow_add-result c = grind (arith, common_steps)

pub invariant_of-result : goal.invariant_of-result
invariant_of-result c = grind (arith, common_steps)

pub returns : goal.returns
returns c = search rules
