use Rattle.std.proofs.Common.{rules, arith}
use Rattle.storage_codec.specs.Laws.Parts.{ends_then, ends_same}
use Rattle.storage_ops.proofs.qmdb.any.operation.variable.VariableEncodingOperationCodec.read_operation.Goals as goal

pub returns-in_default-clause-gives : goal.returns-in_default-clause-gives
returns-in_default-clause-gives g c = search rules

pub returns-in_err-read_cfg-in-209-clause-ends : goal.returns-in_err-read_cfg-in-209-clause-ends
returns-in_err-read_cfg-in-209-clause-ends g c = grind (arith, ends_then, ends_same)

pub returns-in_err-read_cfg-in-210-clause-ends : goal.returns-in_err-read_cfg-in-210-clause-ends
returns-in_err-read_cfg-in-210-clause-ends g c = grind (arith, ends_then, ends_same)

pub returns-in_ok-read_cfg-in-209-clause-ends : goal.returns-in_ok-read_cfg-in-209-clause-ends
returns-in_ok-read_cfg-in-209-clause-ends g c = grind (arith, ends_then, ends_same)

pub returns-in_ok-read_cfg-in-210-clause-ends : goal.returns-in_ok-read_cfg-in-210-clause-ends
returns-in_ok-read_cfg-in-210-clause-ends g c = grind (arith, ends_then, ends_same)

pub returns-in-211-clause-ends : goal.returns-in-211-clause-ends
returns-in-211-clause-ends g c = grind (arith, ends_then, ends_same)
