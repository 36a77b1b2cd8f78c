use Rattle.std.proofs.Common.{rules}
use Rattle.light_c.proofs.Answered.{as_agreed}
use Rattle.light_c.proofs.database.gawerunoa_ask_range.Goals as goal

pub returns-in-Ok-clause-meaning : goal.returns-in-Ok-clause-meaning
returns-in-Ok-clause-meaning c =
    as_agreed _ _ _ _ _ c.in-Ok.ensures.0 c.in-Ok.ensures.1
    (λ none yes. c.gawerunoa_check_range.ensures.meaning none (search rules))
