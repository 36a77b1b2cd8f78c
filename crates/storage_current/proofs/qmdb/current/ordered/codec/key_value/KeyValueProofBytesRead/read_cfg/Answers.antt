use Rattle.storage_current.proofs.qmdb.current.ordered.codec.key_value.KeyValueProofBytesRead.read_cfg.Goals as goal

pub returns-clause-gives : goal.returns-clause-gives
returns-clause-gives g c = c.read_with.ensures.gives

pub returns-clause-ends : goal.returns-clause-ends
returns-clause-ends g c = c.read_with.ensures.ends
