use Rattle.light_questions.proofs.Answered.{check_answer}
use Rattle.light_questions.proofs.variable.value_of.Goals as goal

pub returns : goal.returns
returns g c =
    check_answer c.check_value.result _ _ c.check_value.ensures.refused c.check_value.ensures.exact c.check_value.ensures.meaning
