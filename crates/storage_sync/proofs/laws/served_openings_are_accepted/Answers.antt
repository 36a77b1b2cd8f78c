use Rattle.storage_sync.proofs.Opened.{served_accepted}
use Rattle.storage_sync.proofs.laws.served_openings_are_accepted.Goals as goal

pub returns : goal.returns
returns c = served_accepted c.own_openings_are_accepted.ensures
