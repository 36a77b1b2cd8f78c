use Rattle.light_questions.proofs.fixed.filled_absence.Goals as goal

pub returns-in-Four : goal.returns-in-Four
returns-in-Four g c = rw c.in-Four.is c.absence_of.ensures

pub returns-in-Eight : goal.returns-in-Eight
returns-in-Eight g c = rw c.in-Eight.is c.absence_of-in-Eight.ensures

pub returns-in-Twenty : goal.returns-in-Twenty
returns-in-Twenty g c = rw c.in-Twenty.is c.absence_of-in-Twenty.ensures

pub returns-in-ThirtyTwo : goal.returns-in-ThirtyTwo
returns-in-ThirtyTwo g c = rw c.in-ThirtyTwo.is c.absence_of-in-ThirtyTwo.ensures
