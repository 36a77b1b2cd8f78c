use Rattle.light_questions.proofs.Answered.{sized_answer}
use Rattle.light_questions.proofs.fixed.filled_value.Goals as goal

pub returns-in-Of4 : goal.returns-in-Of4
returns-in-Of4 g c = rw c.in-Of4.is (sized_answer _ 4 c.in-Of4.value c.value_of.ensures)

pub returns-in-Of8 : goal.returns-in-Of8
returns-in-Of8 g c = rw c.in-Of8.is (sized_answer _ 8 c.in-Of8.value c.value_of-in-Of8.ensures)

pub returns-in-Of20 : goal.returns-in-Of20
returns-in-Of20 g c = rw c.in-Of20.is (sized_answer _ 20 c.in-Of20.value c.value_of-in-Of20.ensures)

pub returns-in-Of32 : goal.returns-in-Of32
returns-in-Of32 g c = rw c.in-Of32.is (sized_answer _ 32 c.in-Of32.value c.value_of-in-Of32.ensures)
