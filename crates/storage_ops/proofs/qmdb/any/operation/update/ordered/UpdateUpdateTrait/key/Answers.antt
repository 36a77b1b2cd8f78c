use Rattle.std.proofs.Common.{refl}
use Rattle.storage_ops.proofs.qmdb.any.operation.update.ordered.UpdateUpdateTrait.key.Goals as goal

pub returns : goal.returns
returns g c = refl
