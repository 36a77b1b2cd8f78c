use Rattle.storage_ops.proofs.qmdb.any.operation.update.unordered.UpdateVariableEncodingRead.read_cfg.Goals as goal

pub returns-clause-gives : goal.returns-clause-gives
returns-clause-gives g c = c.read.ensures.gives

pub returns-clause-ends : goal.returns-clause-ends
returns-clause-ends g c = c.read.ensures.ends
