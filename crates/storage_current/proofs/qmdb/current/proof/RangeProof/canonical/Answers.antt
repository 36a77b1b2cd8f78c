use Rattle.storage_current.proofs.qmdb.current.proof.RangeProof.canonical.Goals as goal

pub returns : goal.returns
returns g c = c.canonical_root.ensures
