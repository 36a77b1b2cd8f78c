use Rattle.std.proofs.Common.{arith}
use Rattle.std.proofs.lemmas.Grind.{common_steps}
use Rattle.storage_current.proofs.qmdb.current.grafting.storage.fill.Goals as goal

pub loop-node-preserved : goal.loop-node-preserved
loop-node-preserved g c = grind (arith, common_steps)

pub returns : goal.returns
returns g c = grind (arith, common_steps)
