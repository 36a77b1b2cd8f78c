use Rattle.std.proofs.Common.{List, sym, ap₂, ◌∙◌, subst}
use Rattle.std.specs.BTreeMap.Range.{entries_between}
use Rattle.std.specs.Range.Bound.{bound_map}
use Rattle.storage_db.specs.declared.db.active.Active.{Active}
use Rattle.storage_db.specs.declared.db.notes.Note.{Note}
use Rattle.storage_db.specs.Notes.{shown, taken_back}
use Rattle.storage_db.specs.Orders.{Sorted}
use Rattle.storage_db.specs.Rings.{last_of}
use Rattle.storage_db.proofs.Neighbouring.{last_of_taken}
use Rattle.storage_db.proofs.Notes.{between_taken, sorted-between}
use Rattle.storage_db.proofs.db.active.ActiveKeys.last_between.Goals as goal

pub take_last-requires-clause-entries : goal.take_last-requires-clause-entries
take_last-requires-clause-entries g c =
    subst (λ (l : List (g.row.K.Denot × Active g.row.W.Denot)). Sorted g.K.Ord.cmp l) (sym (c.range.ensures.between tt))
    (sorted-between g.met.K.Ord.total _ _ c.args.self.now.present.entries c.are_sorted.ensures.present)

pub take_last-requires-clause-notes : goal.take_last-requires-clause-notes
take_last-requires-clause-notes g c =
    subst (λ (l : List (g.row.K.Denot × Note g.row.W.Denot)). Sorted g.K.Ord.cmp l) (sym (c.range-2.ensures.between tt))
    (sorted-between g.met.K.Ord.total _ _ c.args.self.now.notes.entries c.are_sorted.ensures.notes)

pub returns : goal.returns
returns g c =
    let lo = bound_map (λ x. x.now) c.args.bounds.0 in
    let hi = bound_map (λ x. x.now) c.args.bounds.1 in
    let es = c.args.self.now.present.entries in
    let ns = c.args.self.now.notes.entries in (
      taken_back g.K.Ord.cmp (entries_between g.K.Ord.cmp lo hi es) (entries_between g.K.Ord.cmp lo hi ns),
      between_taken g.met.K.Ord.total lo hi es ns c.are_sorted.ensures.present c.are_sorted.ensures.notes,
      last_of_taken shown _ _ c.take_last.result c.take_last.ensures.next
          ∙ ap₂ (λ (x : List (g.row.K.Denot × Active g.row.W.Denot)) (y : List (g.row.K.Denot × Note g.row.W.Denot)). last_of (taken_back g.K.Ord.cmp x y))
          (c.range.ensures.between tt) (c.range-2.ensures.between tt),
    )
