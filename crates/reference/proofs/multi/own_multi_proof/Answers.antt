use Rattle.std.proofs.Common.{arith}
use Rattle.std.proofs.lemmas.Grind.{common_steps}
use Rattle.reference.proofs.multi.own_multi_proof.Goals as goal

pub returns : goal.returns
returns g c = grind (arith, common_steps)
