use Rattle.storage_current.proofs.qmdb.current.grafting.hasher.GraftedHasherHasher.hash.Goals as goal

pub returns : goal.returns
returns g c = c.hash.ensures
