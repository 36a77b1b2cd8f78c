use Rattle.light_questions.proofs.Answered.{check_answer}
use Rattle.light_questions.proofs.operation.OperationQuestion.answer.Goals as goal

pub returns : goal.returns
returns g c =
    rw (c.checked.ensures, ← c.new-location.ensures) (check_answer c.check_operation.result _ _ c.check_operation.ensures.refused c.check_operation.ensures.exact c.check_operation.ensures.meaning)
