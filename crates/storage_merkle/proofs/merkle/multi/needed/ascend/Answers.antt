use Rattle.std.proofs.Common.{arith}
use Rattle.std.proofs.lemmas.Grind.{common_steps}
use Rattle.storage_merkle.proofs.merkle.multi.needed.ascend.Goals as goal

pub loop-item-preserved : goal.loop-item-preserved
loop-item-preserved g c = grind (arith, common_steps)
