use Rattle.storage_merkle.proofs.RangeOwn.{own_accepted}
use Rattle.storage_merkle.proofs.laws.own_range_proofs_are_accepted.Goals as goal

pub returns : goal.returns
returns c = λ h T L b proof start claim content inactive few peaks some own.
    own_accepted h T L b start claim content inactive proof few peaks some own
