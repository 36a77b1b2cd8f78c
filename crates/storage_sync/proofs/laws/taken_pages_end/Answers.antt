use Rattle.storage_sync.proofs.Ending.{ends}
use Rattle.storage_sync.proofs.laws.taken_pages_end.Goals as goal

pub returns : goal.returns
returns c = λ h g there d bytes more old new run leaves known. ends h g there d bytes more old new run leaves known
