use Rattle.std.proofs.Common.{sym, ap, ◌∙◌}
use Rattle.storage_db.specs.Rings.{last_of}
use Rattle.storage_db.proofs.Cases.{last_left, last_right}
use Rattle.storage_db.proofs.Lasts.{last_push, last_taken}
use Rattle.storage_db.proofs.db.active.previous.Goals as goal

pub returns-in-Some-clause-value : goal.returns-in-Some-clause-value
returns-in-Some-clause-value g c =
    sym (last_right _ _ _ (ap last_of (sym (c.range.ensures.between tt) ∙ c.in-Some.ensures.steps) ∙ last_push _ _))

pub returns-in-None-clause-value : goal.returns-in-None-clause-value
returns-in-None-clause-value g c =
    last_taken _ c.range-in-None.result c.next_back.new.self c.next_back.result c.next_back.ensures.steps
    ∙ ap last_of (c.range-in-None.ensures.between tt)
    ∙ sym (last_left _ _ (ap last_of (sym (c.range.ensures.between tt) ∙ c.in-None.ensures.steps.0)))
