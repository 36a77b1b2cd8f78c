use Rattle.std.proofs.Common.{rules, arith}
use Rattle.std.proofs.lemmas.Grind.{common_steps}
use Rattle.reference.proofs.fold.bag.Goals as goal

pub returns-in_err-first-in-None : goal.returns-in_err-first-in-None
returns-in_err-first-in-None g c = grind (arith, common_steps)

pub returns-in_ok-first-in-None : goal.returns-in_ok-first-in-None
returns-in_ok-first-in-None g c = grind (arith, common_steps)

pub returns-in-Some : goal.returns-in-Some
returns-in-Some g c = search rules
