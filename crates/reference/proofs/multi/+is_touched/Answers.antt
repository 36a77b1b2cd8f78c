use Rattle.std.proofs.Common.{rules, arith}
use Rattle.std.proofs.lemmas.Grind.{common_steps}
use Rattle.reference.proofs.multi.+is_touched.Goals as goal

pub returns-then-location-end : goal.returns-then-location-end
returns-then-location-end t c = search rules

pub returns-in-None : goal.returns-in-None
returns-in-None t c = grind (arith, common_steps)
