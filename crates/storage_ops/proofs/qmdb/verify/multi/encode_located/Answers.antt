use Rattle.std.proofs.Common.{arith}
use Rattle.std.proofs.lemmas.Grind.{common_steps}
use Rattle.storage_ops.proofs.qmdb.verify.multi.encode_located.Goals as goal

pub loop-location-preserved : goal.loop-location-preserved
loop-location-preserved g c = grind (arith, common_steps)

pub returns-clause-all : goal.returns-clause-all
returns-clause-all g c = grind (arith, common_steps)
