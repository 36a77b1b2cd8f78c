use Rattle.std.proofs.Common.{refl}
use Rattle.storage_merkle.proofs.merkle.proof.Proof.default.Goals as goal

pub returns-clause-inactive : goal.returns-clause-inactive
returns-clause-inactive g c = refl
