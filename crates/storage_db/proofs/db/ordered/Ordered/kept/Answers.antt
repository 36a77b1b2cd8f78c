use Rattle.storage_db.proofs.db.ordered.Ordered.kept.Goals as goal

pub returns : goal.returns
returns g c = λ entries. rw c.in-Some.is (c.in_ok-commit.ensures entries)
