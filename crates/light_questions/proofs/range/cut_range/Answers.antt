use Rattle.light_questions.proofs.Answered.{check_answer, no_memory_left}
use Rattle.light_questions.proofs.range.cut_range.Goals as goal

pub returns : goal.returns
returns g c =
    rw (← c.in_ok-operations.ensures, ← c.in_ok-chunks.ensures, ← c.deref.ensures.value, ← c.deref-2.ensures.value)
    (check_answer c.check_range.result _ _ c.check_range.ensures.refused c.check_range.ensures.exact c.check_range.ensures.meaning)
