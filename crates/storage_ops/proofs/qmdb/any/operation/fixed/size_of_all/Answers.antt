use Rattle.std.proofs.Common.{arith}
use Rattle.storage_ops.proofs.qmdb.any.operation.fixed.size_of_all.Goals as goal

pub returns : goal.returns
returns g c x = let e = g.met.T.FixedSize.sized x in grind arith
