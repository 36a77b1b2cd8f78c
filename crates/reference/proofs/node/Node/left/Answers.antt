use Rattle.std.proofs.Common.{rules, arith}
use Rattle.std.proofs.lemmas.Grind.{common_steps}
use Rattle.reference.proofs.node.Node.left.Goals as goal

pub invariant_of-result : goal.invariant_of-result
invariant_of-result c = grind (arith, common_steps)

pub returns : goal.returns
returns c = search rules
