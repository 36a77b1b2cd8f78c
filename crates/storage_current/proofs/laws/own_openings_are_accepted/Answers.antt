use Rattle.storage_current.proofs.Openings.{own_opened}
use Rattle.storage_current.proofs.laws.own_openings_are_accepted.Goals as goal

pub returns : goal.returns
returns c = own_opened c.own_pinned_proofs_are_accepted.ensures c.own_witnesses_are_accepted.ensures
