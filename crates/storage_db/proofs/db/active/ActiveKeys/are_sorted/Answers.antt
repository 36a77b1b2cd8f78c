use Rattle.storage_db.proofs.Changing.{sorted_of}
use Rattle.storage_db.proofs.db.active.ActiveKeys.are_sorted.Goals as goal

pub returns-clause-present : goal.returns-clause-present
returns-clause-present g c = sorted_of g.K.Ord.cmp _ c.len.ensures.ordered

pub returns-clause-notes : goal.returns-clause-notes
returns-clause-notes g c = sorted_of g.K.Ord.cmp _ c.len-2.ensures.ordered
