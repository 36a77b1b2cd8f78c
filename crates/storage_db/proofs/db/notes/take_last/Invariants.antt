use Rattle.std.proofs.Common.{◌≡◌, length}
use Rattle.storage_db.specs.Notes.{taken_back}
use Rattle.storage_db.specs.Orders.{Sorted}
use Rattle.storage_db.proofs.db.notes.take_last.Given as goal

abbrev pub invariant-steps : goal.invariant-steps
invariant-steps g l = record {
  entries : Sorted g.K.Ord.cmp l.entries;
  notes : Sorted g.K.Ord.cmp l.notes;
  same : taken_back g.K.Ord.cmp l.fn.entries l.fn.notes ≡ taken_back g.K.Ord.cmp l.entries l.notes;
}

abbrev pub decreases-steps : goal.decreases-steps
decreases-steps g l = length l.notes
