use Rattle.std.proofs.Common.{arith}
use Rattle.std.proofs.lemmas.Grind.{common_steps}
use Rattle.storage_merkle.proofs.merkle.proof.Proof.extract_nothing.Goals as goal

pub returns-then-as_u64-ne0 : goal.returns-then-as_u64-ne0
returns-then-as_u64-ne0 g c = grind (arith, common_steps)
