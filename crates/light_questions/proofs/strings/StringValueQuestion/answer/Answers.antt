use Rattle.std.proofs.Common.{rules}
use Rattle.light_questions.proofs.Answered.{no_chunk, no_memory_left, refused_as, vector_answer}
use Rattle.light_questions.proofs.Alike.{has_vector_alike}
use Rattle.light_questions.proofs.strings.StringValueQuestion.answer.Goals as goal

pub returns-then-is_none : goal.returns-then-is_none
returns-then-is_none g c = (no_chunk (search rules) (λ a. a.said.said.accepted.current.size))

pub returns-in_default : goal.returns-in_default
returns-in_default g c = (no_memory_left (search rules))

pub returns : goal.returns
returns g c =
    rw (c.checked.ensures)
    (vector_answer _ c.in-Ok.key _ c.in-Ok.ensures.items (λ w e. has_vector_alike _ _ _ c.in-Ok.key w e _)
    (c.vector_value.ensures))
