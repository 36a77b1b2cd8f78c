use Rattle.std.proofs.Common.{rules, arith}
use Rattle.std.proofs.lemmas.Grind.{common_steps}
use Rattle.reference.proofs.multi.+ascend.Goals as goal

pub returns-then-location-leaves : goal.returns-then-location-leaves
returns-then-location-leaves t c = search rules

pub returns-in-None : goal.returns-in-None
returns-in-None t c = grind (arith, common_steps)
