use Rattle.std.proofs.Common.{refl}
use Rattle.storage_current.proofs.qmdb.current.proof.witness.OpsRootWitness.clone.Goals as goal

pub returns : goal.returns
returns g c = rw c.copied.ensures refl
