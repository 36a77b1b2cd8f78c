use Rattle.storage_current.proofs.qmdb.current.ordered.codec.key_value.KeyValueProofArrayU8Read.read_cfg.Goals as goal

pub returns-in-Ok-clause-gives : goal.returns-in-Ok-clause-gives
returns-in-Ok-clause-gives g c = c.in-Ok.ensures.gives

pub returns-in-Ok-clause-ends : goal.returns-in-Ok-clause-ends
returns-in-Ok-clause-ends g c = c.read_pair.ensures.ends

pub returns-in-Err-clause-gives : goal.returns-in-Err-clause-gives
returns-in-Err-clause-gives g c = c.in-Err.ensures.gives

pub returns-in-Err-clause-ends : goal.returns-in-Err-clause-ends
returns-in-Err-clause-ends g c = c.read_pair.ensures.ends
