use Rattle.std.proofs.Common.{rules, arith}
use Rattle.std.proofs.lemmas.Grind.{common_steps}
use Rattle.reference.proofs.multi.+element_at.Goals as goal

pub returns-then-as_u64-location : goal.returns-then-as_u64-location
returns-then-as_u64-location g t c = search rules

pub returns-in_default : goal.returns-in_default
returns-in_default g t c = grind (arith, common_steps)
