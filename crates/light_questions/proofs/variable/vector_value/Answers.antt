use Rattle.light_questions.proofs.Alike.{value_alike}
use Rattle.light_questions.proofs.Answered.{no_memory_left, vector_answer}
use Rattle.light_questions.proofs.variable.vector_value.Goals as goal

pub returns-in_default : goal.returns-in_default
returns-in_default g c = no_memory_left c.requires

pub returns : goal.returns
returns g c =
    vector_answer _ c.in-Ok.value _ c.in-Ok.ensures.items (value_alike _ _ _ c.in-Ok.value) c.value_of.ensures
