use Rattle.storage_current.proofs.OperationSound.{operation_accepted}
use Rattle.storage_current.proofs.laws.own_operation_proofs_are_accepted.Goals as goal

pub returns : goal.returns
returns c = λ h g grafting s snapshot location operation active. operation_accepted h g grafting.size s
    c.own_current_proofs_are_accepted.ensures grafting snapshot location operation active
