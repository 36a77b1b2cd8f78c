use Rattle.storage_current.proofs.OperationSound.{operation_sound}
use Rattle.storage_current.proofs.laws.operation_proofs_are_sound.Goals as goal

pub returns : goal.returns
returns c = operation_sound c.current_proofs_are_sound.ensures
