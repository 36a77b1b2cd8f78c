use Rattle.storage_merkle.proofs.Multi.Own.{own_multi_accepted}
use Rattle.storage_merkle.proofs.laws.multi.own_multi_proofs_are_accepted.Goals as goal

pub returns : goal.returns
returns c = λ h T L b claims content inactive few peaks some up stand.
    own_multi_accepted h T b claims content inactive few peaks some up stand
