use Rattle.storage_current.proofs.qmdb.current.ordered.codec.exclusion.ExclusionProofWrite.write.Goals as goal

pub returns-in-Commit-clause-ok : goal.returns-in-Commit-clause-ok
returns-in-Commit-clause-ok g c = rw c.in-Commit.is c.write_tagged-in-Commit.ensures.ok

pub returns-in-Commit-clause-err : goal.returns-in-Commit-clause-err
returns-in-Commit-clause-err g c = rw c.in-Commit.is c.write_tagged-in-Commit.ensures.err
