use Rattle.std.proofs.Common.{ap}
use Rattle.storage_current.proofs.qmdb.current.grafting.tree.GraftedTree.pruned_chunks.Goals as goal

pub returns : goal.returns
returns g c = ap (λ t. t.pruned) c.self.view_is
