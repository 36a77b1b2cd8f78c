use Rattle.std.proofs.Common.{refl}
use Rattle.storage_current.proofs.qmdb.current.grafting.verifier.Verifier.new.Goals as goal

pub returns-clause-start : goal.returns-clause-start
returns-clause-start g c = refl
