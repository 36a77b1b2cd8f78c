use Rattle.light_c.proofs.Answered.{answered, as_agreed, wide_of}
use Rattle.light_c.proofs.database.gawerunoa_ask_absence.Goals as goal

pub returns-in-Ok-clause-exact : goal.returns-in-Ok-clause-exact
returns-in-Ok-clause-exact c =
    as_agreed _ _ _ _ _ c.in-Ok.ensures.0 c.in-Ok.ensures.1
    (answered c.check_absence_in.result c.told.result c.told.ensures c.check_absence_in.ensures).exact

pub returns-in-Ok-clause-meaning : goal.returns-in-Ok-clause-meaning
returns-in-Ok-clause-meaning c =
    as_agreed _ _ _ _ _ c.in-Ok.ensures.0 c.in-Ok.ensures.1
    (λ none is. (answered c.check_absence_in.result c.told.result c.told.ensures c.check_absence_in.ensures).meaning none is (wide_of c.in-Ok.it.hash))

pub returns-in-Ok-clause-refused : goal.returns-in-Ok-clause-refused
returns-in-Ok-clause-refused c =
    as_agreed _ _ _ _ _ c.in-Ok.ensures.0 c.in-Ok.ensures.1
    (answered c.check_absence_in.result c.told.result c.told.ensures c.check_absence_in.ensures).refused
