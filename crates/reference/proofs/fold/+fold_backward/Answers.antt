use Rattle.std.proofs.Common.{rules, arith}
use Rattle.std.proofs.lemmas.Grind.{common_steps}
use Rattle.reference.proofs.fold.+fold_backward.Goals as goal

pub returns-in-None : goal.returns-in-None
returns-in-None g t c = grind (arith, common_steps)

pub returns-in-Some : goal.returns-in-Some
returns-in-Some g t c = search rules
