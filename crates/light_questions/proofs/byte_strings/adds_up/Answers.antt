use Rattle.std.proofs.Common.{arith, rules}
use Rattle.std.proofs.lemmas.Grind.{common_steps}
use Rattle.light_questions.proofs.byte_strings.adds_up.Goals as goal

pub returns-then-length-rest : goal.returns-then-length-rest
returns-then-length-rest c = grind (arith, common_steps)

pub loop-length-preserved : goal.loop-length-preserved
loop-length-preserved c = grind (arith, common_steps)

pub returns : goal.returns
returns c = grind (arith, common_steps)

pub overflow_sub-rest : goal.overflow_sub-rest
overflow_sub-rest c = search rules
