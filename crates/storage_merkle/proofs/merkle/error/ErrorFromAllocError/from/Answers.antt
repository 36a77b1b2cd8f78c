use Rattle.std.proofs.Common.{refl}
use Rattle.storage_merkle.proofs.merkle.error.ErrorFromAllocError.from.Goals as goal

pub returns : goal.returns
returns g c = refl
