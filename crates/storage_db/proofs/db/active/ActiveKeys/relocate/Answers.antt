use Rattle.storage_db.proofs.Noting.{stays_moved}
use Rattle.storage_db.proofs.db.active.ActiveKeys.relocate.Goals as goal

pub returns-clause-committed : goal.returns-clause-committed
returns-clause-committed g c = λ noted.
    stays_moved g.met.K.Ord.total c.args.self.now.present.entries c.relocate.new.active.entries c.args.self.now.notes.entries
    c.are_sorted.ensures.present c.are_sorted.ensures.notes c.args.key.now c.args.location c.relocate.ensures.entries noted
