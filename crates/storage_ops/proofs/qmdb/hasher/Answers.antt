use Rattle.storage_ops.proofs.qmdb.hasher.Goals as goal

pub returns : goal.returns
returns g c = c.new.ensures
