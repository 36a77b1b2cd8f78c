use Rattle.std.proofs.Common.{refl}
use Rattle.storage_merkle.proofs.merkle.mem.as_storage.MemStorage.failures.Goals as goal

pub returns : goal.returns
returns g c = refl
