use Rattle.std.proofs.Common.{arith}
use Rattle.storage_codec.specs.Laws.Parts.{ends_then}
use Rattle.storage_ops.proofs.qmdb.any.operation.update.unordered.read.Goals as goal

pub returns-in_err-read_value-clause-ends : goal.returns-in_err-read_value-clause-ends
returns-in_err-read_value-clause-ends g c = grind (arith, ends_then)

pub returns-clause-ends : goal.returns-clause-ends
returns-clause-ends g c = grind (arith, ends_then)
