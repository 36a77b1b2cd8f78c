use Rattle.std.proofs.Common.{List, sym, ap₂, ◌∙◌, subst}
use Rattle.std.specs.BTreeMap.Range.{entries_between, range_contains}
use Rattle.std.specs.Range.Bound.{bound_map}
use Rattle.std.specs.declared.ops.Bound.{Bound}
use Rattle.storage_db.specs.declared.db.active.Active.{Active}
use Rattle.storage_db.specs.declared.db.notes.Note.{Note}
use Rattle.storage_db.specs.Notes.{AreAlike, taken_back}
use Rattle.storage_db.specs.Orders.{Sorted}
use Rattle.storage_db.specs.Parts.{committed_of}
use Rattle.storage_db.specs.Ranges.{pairs_of}
use Rattle.storage_db.proofs.Notes.{between_same, between_taken, sorted-between}
use Rattle.storage_db.proofs.db.ranges.committed_entries_of.Goals as goal

pub invariant_of-result : goal.invariant_of-result
invariant_of-result g c = (
  subst (λ (l : List (g.row.K.Denot × Active g.row.W.Denot)). Sorted g.K.Ord.cmp l) (sym (c.range.ensures.between tt))
      (sorted-between g.met.K.Ord.total _ _ c.args.active.now.present.entries c.are_sorted.ensures.present),
  subst (λ (l : List (g.row.K.Denot × Note g.row.W.Denot)). Sorted g.K.Ord.cmp l) (sym (c.range-2.ensures.between tt))
      (sorted-between g.met.K.Ord.total _ _ c.args.active.now.notes.entries c.are_sorted.ensures.notes),
)

pub returns : goal.returns
returns g c = λ has.
    let first : Bound g.row.K.Denot = bound_map (λ x. x.now) c.start_bound-start.result in
    let last : Bound g.row.K.Denot = bound_map (λ x. x.now) c.forward_end.result in
    let es = c.args.active.now.present.entries in
    let ns = c.args.active.now.notes.entries in
    let others = taken_back g.K.Ord.cmp (entries_between g.K.Ord.cmp first last es) (entries_between g.K.Ord.cmp first last ns) in
    let all = committed_of g.K.Ord.cmp c.args.active.now in (
      others,
      subst (λ (l : List (g.row.K.Denot × Active g.row.W.Denot)). AreAlike g.K.Ord.cmp l others)
          (between_same g.K.Ord.cmp first last (g.R.RangeBounds.start_bound c.args.range) (g.R.RangeBounds.end_bound c.args.range)
          (λ k. c.forward_end.ensures.same k ∙ ap₂ (λ (x y : Bound g.row.K.Denot). range_contains g.K.Ord.cmp x y k)
          (c.start_bound-start.ensures has) (c.end_bound.ensures has)) all)
          (between_taken g.met.K.Ord.total first last es ns c.are_sorted.ensures.present c.are_sorted.ensures.notes),
      ap₂ (λ (x : List (g.row.K.Denot × Active g.row.W.Denot)) (y : List (g.row.K.Denot × Note g.row.W.Denot)).
          pairs_of (taken_back g.K.Ord.cmp x y)) (c.range.ensures.between tt) (c.range-2.ensures.between tt),
    )
