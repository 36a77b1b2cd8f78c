use Rattle.storage_ops.proofs.qmdb.verify.multi.create_multi_proof.Goals as goal

pub returns : goal.returns
returns g c = c.multi_proof.ensures
