use Rattle.storage_current.proofs.OwnWritten.{own_again}
use Rattle.storage_current.proofs.laws.own_operation_proofs_are_read_again.Goals as goal

pub returns : goal.returns
returns c = λ d h sized g grafting has_pending prompt s snapshot location within rest.
    own_again d h sized g grafting has_pending prompt s snapshot location within rest
