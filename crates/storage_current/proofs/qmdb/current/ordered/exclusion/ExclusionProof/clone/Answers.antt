use Rattle.std.proofs.Common.{ap₂}
use Rattle.storage_current.specs.KeyProofs.{Commit}
use Rattle.storage_current.proofs.qmdb.current.ordered.exclusion.ExclusionProof.clone.Goals as goal

pub returns-in_ok-value_as-in-Commit : goal.returns-in_ok-value_as-in-Commit
returns-in_ok-value_as-in-Commit g c = λ same.
    rw c.in-Commit.is (ap₂ Commit (c.in_ok-clone-in-Commit.ensures same) c.in_ok-value_as-in-Commit.ensures.seen)
