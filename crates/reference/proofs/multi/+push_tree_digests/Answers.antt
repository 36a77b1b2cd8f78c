use Rattle.std.proofs.Common.{arith}
use Rattle.std.proofs.lemmas.Grind.{common_steps}
use Rattle.reference.proofs.multi.+push_tree_digests.Goals as goal

pub returns-in_default : goal.returns-in_default
returns-in_default g t c = grind (arith, common_steps)

pub returns : goal.returns
returns g t c = grind (arith, common_steps)
