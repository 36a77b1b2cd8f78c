use Rattle.std.proofs.Common.{arith}
use Rattle.std.proofs.lemmas.Grind.{common_steps}
use Rattle.storage_ops.proofs.qmdb.verify.encode_all.Goals as goal

pub loop-operation-preserved : goal.loop-operation-preserved
loop-operation-preserved g c = grind (arith, common_steps)

pub returns-clause-all : goal.returns-clause-all
returns-clause-all g c = grind (arith, common_steps)
