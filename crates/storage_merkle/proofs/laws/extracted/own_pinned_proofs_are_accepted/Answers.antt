use Rattle.storage_merkle.proofs.Pinned.Own.{own_pinned_accepted}
use Rattle.storage_merkle.proofs.laws.extracted.own_pinned_proofs_are_accepted.Goals as goal

pub returns : goal.returns
returns c = own_pinned_accepted
