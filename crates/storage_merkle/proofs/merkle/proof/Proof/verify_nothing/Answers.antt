use Rattle.std.proofs.Common.{arith}
use Rattle.std.proofs.lemmas.Grind.{common_steps}
use Rattle.storage_merkle.proofs.merkle.proof.Proof.verify_nothing.Goals as goal

pub returns-else-is_default : goal.returns-else-is_default
returns-else-is_default g c = grind (arith, common_steps)
