use Rattle.storage_merkle.proofs.Walks.{peak_count}
use Rattle.storage_merkle.proofs.merkle.plan.peak_count.Goals as goal

pub returns : goal.returns
returns g c = peak_count g.F.Family.shape g.met.F.Family.laws c.args.leaves c.nodes_over.result c.nodes_over.ensures
