use Rattle.storage_codec.proofs.digest.FixedBytes32Digest.read.Goals as goal

pub returns-clause-gives : goal.returns-clause-gives
returns-clause-gives g c = c.read_cfg.ensures.gives

pub returns-clause-ends : goal.returns-clause-ends
returns-clause-ends g c = c.read_cfg.ensures.ends
