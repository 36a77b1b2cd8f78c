use Rattle.std.proofs.Common.{refl}
use Rattle.storage_current.proofs.qmdb.current.proof.witness.OpsRootWitness.copied.Goals as goal

pub returns : goal.returns
returns g c = refl
