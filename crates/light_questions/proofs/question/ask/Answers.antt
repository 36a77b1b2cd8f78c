use Rattle.light_questions.proofs.Answered.{refused_as}
use Rattle.light_questions.proofs.question.ask.Goals as goal

pub returns-in-Ok-Of256 : goal.returns-in-Ok-Of256
returns-in-Ok-Of256 g c =
    let is = rw c.in-Ok-Of256.field-0-is at c.in-Ok-Of256.ensures.1 in
    rw (c.in-Ok-Of256.ensures.0, is.0, ← is.1) c.of_family.ensures

pub returns-in-Ok-Of512 : goal.returns-in-Ok-Of512
returns-in-Ok-Of512 g c =
    let is = rw c.in-Ok-Of512.field-0-is at c.in-Ok-Of512.ensures.1 in
    rw (c.in-Ok-Of512.ensures.0, is.0, ← is.1) c.of_family-in-Ok-Of512.ensures

pub returns-in-Err : goal.returns-in-Err
returns-in-Err g c = rw (c.in-Err.ensures, g.met.Q.Question.first) (refused_as _)
