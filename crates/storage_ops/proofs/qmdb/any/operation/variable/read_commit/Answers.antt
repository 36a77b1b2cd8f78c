use Rattle.std.proofs.Common.{arith}
use Rattle.storage_codec.specs.Laws.Parts.{ends_then}
use Rattle.storage_ops.proofs.qmdb.any.operation.variable.read_commit.Goals as goal

pub returns-in-Ok-clause-ends : goal.returns-in-Ok-clause-ends
returns-in-Ok-clause-ends g c = grind (arith, ends_then)

pub returns-in-Err-clause-ends : goal.returns-in-Err-clause-ends
returns-in-Err-clause-ends g c = grind (arith, ends_then)
