use Rattle.light_questions.proofs.variable.AbsenceClaim.of.Goals as goal

pub returns : goal.returns
returns g c = rw c.checked.ensures c.absence_of.ensures
