use Rattle.storage_current.proofs.qmdb.current.grafting.verifier.VerifierHasher.hash.Goals as goal

pub returns : goal.returns
returns g c = c.hash.ensures
