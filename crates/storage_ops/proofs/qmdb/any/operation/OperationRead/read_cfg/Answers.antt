use Rattle.std.proofs.Common.{rules}
use Rattle.storage_ops.proofs.qmdb.any.operation.OperationRead.read_cfg.Goals as goal

pub returns-clause-gives : goal.returns-clause-gives
returns-clause-gives g c = c.read_operation.ensures.gives

pub returns-clause-ends : goal.returns-clause-ends
returns-clause-ends g c = search rules
