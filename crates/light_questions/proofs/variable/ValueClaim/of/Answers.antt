use Rattle.std.proofs.Common.{rules}
use Rattle.light_questions.proofs.Answered.{no_chunk}
use Rattle.light_questions.proofs.variable.ValueClaim.of.Goals as goal

pub returns : goal.returns
returns g c = rw c.checked.ensures c.vector_value.ensures

pub returns-then-is_none : goal.returns-then-is_none
returns-then-is_none g c = no_chunk (search rules) (λ a. a.said.accepted.current.size)
