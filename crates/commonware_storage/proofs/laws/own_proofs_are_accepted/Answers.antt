use Rattle.commonware_storage.proofs.OwnProofs.{own_accepted}
use Rattle.commonware_storage.proofs.laws.own_proofs_are_accepted.Goals as goal

pub returns : goal.returns
returns c = λ d h sized g grafting has_pending prompt s snapshot location operation active.
    own_accepted c.own_operation_proofs_are_accepted.ensures c.own_operation_proofs_are_read_again.ensures d h sized g
    grafting has_pending prompt s snapshot location operation active
