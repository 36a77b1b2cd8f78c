use Rattle.std.proofs.Common.{rules, arith}
use Rattle.storage_codec.specs.Laws.Parts.{ends_then, ends_same}
use Rattle.storage_ops.proofs.qmdb.any.operation.fixed.FixedEncodingOperationCodec.read_operation.Goals as goal

pub returns-clause-gives : goal.returns-clause-gives
returns-clause-gives g c = search rules

pub returns-clause-ends : goal.returns-clause-ends
returns-clause-ends g c = grind (arith, ends_then, ends_same)
