use Rattle.std.proofs.Common.{rules}
use Rattle.light_questions.proofs.Answered.{no_chunk, no_memory_left, refused_as, vector_answer}
use Rattle.light_questions.proofs.Alike.{lacks_alike}
use Rattle.light_questions.proofs.strings.StringSizedAbsenceQuestion.answer.Goals as goal

pub returns-in_default : goal.returns-in_default
returns-in_default g c = rw c.in_default.ensures (refused_as _)

pub returns-then-is_none : goal.returns-then-is_none
returns-then-is_none g c = rw c.in-Some.ensures.0 (no_chunk (search rules) (λ a. a.said.accepted.accepted.current.size))

pub returns-in_default-from_slice : goal.returns-in_default-from_slice
returns-in_default-from_slice g c = rw c.in-Some.ensures.0 (no_memory_left (search rules))

pub returns : goal.returns
returns g c =
    rw (c.in-Some.ensures.0, ← c.in-Some.ensures.1, c.checked.ensures)
    (vector_answer _ c.in-Ok.key _ c.in-Ok.ensures.items (λ w e. lacks_alike _ _ _ c.in-Ok.key w e _ _ _)
    (c.sized_absence.ensures))
