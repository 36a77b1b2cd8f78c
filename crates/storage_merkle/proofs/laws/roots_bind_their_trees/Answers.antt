use Rattle.storage_merkle.proofs.Alike.{alike}
use Rattle.storage_merkle.proofs.laws.roots_bind_their_trees.Goals as goal

pub returns : goal.returns
returns c = alike
