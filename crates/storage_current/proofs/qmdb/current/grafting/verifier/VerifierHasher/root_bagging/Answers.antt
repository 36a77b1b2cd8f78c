use Rattle.std.proofs.Common.{refl}
use Rattle.storage_current.proofs.qmdb.current.grafting.verifier.VerifierHasher.root_bagging.Goals as goal

pub returns : goal.returns
returns g c = refl
