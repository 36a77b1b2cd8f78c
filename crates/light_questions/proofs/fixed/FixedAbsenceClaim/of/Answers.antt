use Rattle.light_questions.proofs.Answered.{refused_as}
use Rattle.light_questions.proofs.fixed.FixedAbsenceClaim.of.Goals as goal

pub returns-in_default : goal.returns-in_default
returns-in_default g c = rw c.in_default.ensures (refused_as _)

pub returns : goal.returns
returns g c = rw (c.in-Some.ensures.0, ← c.in-Some.ensures.1, c.checked.ensures) c.filled_absence.ensures
