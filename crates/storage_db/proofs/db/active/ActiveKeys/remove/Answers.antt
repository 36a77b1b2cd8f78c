use Rattle.std.proofs.Common.{Option, option_map, ap, ◌∙◌}
use Rattle.storage_db.specs.declared.db.active.Active.{Active}
use Rattle.storage_db.specs.Notes.{settled_to}
use Rattle.storage_db.proofs.Notes.{look}
use Rattle.storage_db.proofs.Noting.{stay_noted, stays_removed}
use Rattle.storage_db.proofs.db.active.ActiveKeys.remove.Goals as goal

pub returns-clause-before : goal.returns-clause-before
returns-clause-before g c =
    c.parts-value.ensures.location ∙ ap (option_map (λ (a : Active g.row.W.Denot). a.location)) c.remove.ensures.value

pub returns-clause-others : goal.returns-clause-others
returns-clause-others g c =
    stay_noted g.met.K.Ord.total c.args.self.now.present.entries c.remove.new.self.entries
    c.args.self.now.notes.entries c.settle.new.notes.entries c.are_sorted.ensures.notes c.args.key.now
    (c.settle.ensures ∙ ap (λ (b : Option g.row.W.Denot). settled_to g.K.Ord.cmp (look g.K.Ord.cmp c.args.self.now.notes.entries c.args.key.now)
    b c.args.key.now c.args.self.now.notes.entries) (c.parts-value.ensures.value ∙ ap (option_map (λ (a : Active g.row.W.Denot). a.value)) c.remove.ensures.value))

pub returns-clause-committed : goal.returns-clause-committed
returns-clause-committed g c = λ noted.
    stays_removed g.met.K.Ord.total c.args.self.now.present.entries c.remove.new.self.entries
    c.args.self.now.notes.entries c.settle.new.notes.entries c.are_sorted.ensures.notes c.args.key.now
    (c.settle.ensures ∙ ap (λ (b : Option g.row.W.Denot). settled_to g.K.Ord.cmp (look g.K.Ord.cmp c.args.self.now.notes.entries c.args.key.now)
    b c.args.key.now c.args.self.now.notes.entries) (c.parts-value.ensures.value ∙ ap (option_map (λ (a : Active g.row.W.Denot). a.value)) c.remove.ensures.value))
    c.are_sorted.ensures.present c.remove.ensures.entries noted
