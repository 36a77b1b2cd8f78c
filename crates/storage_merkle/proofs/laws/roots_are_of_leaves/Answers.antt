use Rattle.storage_merkle.specs.Laws.Hashing.{tree_root-leaves}
use Rattle.storage_merkle.proofs.laws.roots_are_of_leaves.Goals as goal

pub returns : goal.returns
returns c = λ h T L b content inactive. tree_root-leaves h T L b content inactive
