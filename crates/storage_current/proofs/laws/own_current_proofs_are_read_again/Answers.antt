use Rattle.storage_current.proofs.OwnWritten.{own_current_again}
use Rattle.storage_current.proofs.laws.own_current_proofs_are_read_again.Goals as goal

pub returns : goal.returns
returns c = λ d h sized g grafting has_pending prompt s snapshot low high most count small rest.
    own_current_again d h sized g grafting has_pending prompt s snapshot low high most count small rest
