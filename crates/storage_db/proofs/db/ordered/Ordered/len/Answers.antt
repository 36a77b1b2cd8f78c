use Rattle.std.proofs.Common.{List, length, ap, ◌∙◌}
use Rattle.storage_db.specs.declared.db.active.Active.{Active}
use Rattle.storage_db.specs.Kept.{KeptDatabase}
use Rattle.storage_db.proofs.db.ordered.Ordered.len.Goals as goal

pub returns : goal.returns
returns g c = λ d keeps.
    c.len.ensures.len ∙ ap (λ (k : KeptDatabase g.row.K.Denot g.row.V-Value.Denot). length k.entries) c.self.view_is
    ∙ ap (λ (entries : List (g.row.K.Denot × Active g.row.V-Value.Denot)). length entries) keeps.entries
