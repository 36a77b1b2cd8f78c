use Rattle.light_questions.proofs.Answered.{check_answer}
use Rattle.light_questions.proofs.variable.absence_of.Goals as goal

pub returns : goal.returns
returns g c =
    check_answer c.check_absence.result _ _ c.check_absence.ensures.refused c.check_absence.ensures.exact c.check_absence.ensures.meaning
