use Rattle.std.proofs.Common.{sym, ap, ◌∙◌}
use Rattle.storage_db.specs.Kept.{KeptDatabase, pruned_of}
use Rattle.storage_db.specs.Parts.{committed_of}
use Rattle.storage_db.proofs.Remembering.{with_all}
use Rattle.storage_db.proofs.db.ordered.Ordered.pruned.Goals as goal

pub returns-in-Some : goal.returns-in-Some
returns-in-Some g c =
    c.pruned.ensures ∙ sym (ap pruned_of (ap (with_all (committed_of g.K.Ord.cmp c.self.inside.active)) c.in-Some.is))
    ∙ ap (λ (k : KeptDatabase g.row.K.Denot g.row.V-Value.Denot). pruned_of k.last) c.self.view_is

pub returns-in-None : goal.returns-in-None
returns-in-None g c =
    sym (ap pruned_of (ap (with_all (committed_of g.K.Ord.cmp c.self.inside.active)) c.in-None.is))
    ∙ ap (λ (k : KeptDatabase g.row.K.Denot g.row.V-Value.Denot). pruned_of k.last) c.self.view_is
