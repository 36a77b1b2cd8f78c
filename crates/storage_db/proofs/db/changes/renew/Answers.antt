use Rattle.std.proofs.Common.{refl, sym, subst}
use Rattle.storage_db.specs.declared.db.log.Log.{Log}
use Rattle.storage_db.specs.Parts.{GoesOn}
use Rattle.storage_db.proofs.Going.{goes_appended, goes_cleared, goes_same, goes_trans}
use Rattle.storage_db.proofs.db.changes.renew.Goals as goal
use Rattle.storage_db.proofs.db.changes.renew.Goals.{in-Some, in_default}

pub returns-clause-on : goal.returns-clause-on
returns-clause-on g c =
    let old = c.args.log.now in
    goes_trans old c.match-relocate.log c.append.new.self
    (elim c.match-relocate.branch [
      | in-Some w ↦
          subst (λ (l : Log). GoesOn old l) (sym w.log-is)
          (goes_cleared old w.clear.new.self w.clear.ensures.operations w.clear.ensures.committed w.clear.ensures.cleared)
      | in_default w ↦ subst (λ (l : Log). GoesOn old l) (sym w.log-is) (goes_same old old refl refl refl refl)
    ])
    (goes_appended c.match-relocate.log c.append.new.self c.args.bytes _ c.append.ensures.operations c.append.ensures.bits
    c.append.ensures.committed c.append.ensures.cleared)
