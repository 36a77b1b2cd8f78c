use Rattle.std.proofs.Common.{List, refl, sym, subst}
use Rattle.storage_db.specs.declared.db.active.Active.{Active}
use Rattle.storage_db.specs.declared.db.log.Log.{Log}
use Rattle.storage_db.specs.Notes.{AreAlike}
use Rattle.storage_db.specs.Parts.{GoesOn, committed_of}
use Rattle.storage_db.proofs.Going.{goes_appended, goes_cleared, goes_same, goes_trans}
use Rattle.storage_db.proofs.db.changes.set.Goals as goal
use Rattle.storage_db.proofs.db.changes.set.Goals.{in-Some, in_default}

pub returns-clause-on : goal.returns-clause-on
returns-clause-on g c =
    let old = c.args.log.now in
    goes_trans old c.match-before.log c.append.new.self
    (elim c.match-before.branch [
      | in-Some w ↦
          subst (λ (l : Log). GoesOn old l) (sym w.log-is)
          (goes_cleared old w.clear.new.self w.clear.ensures.operations w.clear.ensures.committed w.clear.ensures.cleared)
      | in_default w ↦ subst (λ (l : Log). GoesOn old l) (sym w.log-is) (goes_same old old refl refl refl refl)
    ])
    (goes_appended c.match-before.log c.append.new.self c.args.bytes _ c.append.ensures.operations c.append.ensures.bits
    c.append.ensures.committed c.append.ensures.cleared)

pub returns-clause-others : goal.returns-clause-others
returns-clause-others g c = λ key noted. c.insert.ensures.others key (c.note.ensures.others key noted)

pub returns-clause-committed : goal.returns-clause-committed
returns-clause-committed g c = λ some.
    subst (λ (l : List (g.row.K.Denot × Active g.row.W.Denot)). AreAlike g.K.Ord.cmp l (committed_of g.K.Ord.cmp c.insert.new.self))
    c.note.ensures.committed (c.in_ok-before.ensures.committed (c.in_ok-note.ensures.noted some))
