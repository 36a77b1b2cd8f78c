use Rattle.std.proofs.Common.{refl}
use Rattle.storage_current.proofs.qmdb.current.grafting.storage.Storage.new.Goals as goal

pub returns-clause-height : goal.returns-clause-height
returns-clause-height g c = refl
