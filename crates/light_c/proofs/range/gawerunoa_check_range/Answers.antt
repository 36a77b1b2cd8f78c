use Rattle.light_c.proofs.Answered.{answered, wide_of}
use Rattle.light_c.proofs.range.gawerunoa_check_range.Goals as goal

pub returns-clause-exact : goal.returns-clause-exact
returns-clause-exact c = (answered c.ask.result c.told.result c.told.ensures c.ask.ensures).exact

pub returns-clause-meaning : goal.returns-clause-meaning
returns-clause-meaning c = λ none is.
    (answered c.ask.result c.told.result c.told.ensures c.ask.ensures).meaning none is (wide_of c.args.hash)

pub returns-clause-refused : goal.returns-clause-refused
returns-clause-refused c = (answered c.ask.result c.told.result c.told.ensures c.ask.ensures).refused
