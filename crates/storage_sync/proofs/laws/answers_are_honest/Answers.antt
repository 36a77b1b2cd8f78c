use Rattle.storage_sync.proofs.Joined.{honest}
use Rattle.storage_sync.proofs.laws.answers_are_honest.Goals as goal

pub returns : goal.returns
returns c = λ h g there s t page may answer limits. honest h g there s t page may answer limits
