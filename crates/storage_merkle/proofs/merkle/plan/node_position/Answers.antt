use Rattle.storage_merkle.proofs.Walks.{fits_within}
use Rattle.storage_merkle.proofs.merkle.plan.node_position.Goals as goal

pub position-requires-clause-fits : goal.position-requires-clause-fits
position-requires-clause-fits g c =
    fits_within g.F.Family.shape g.met.F.Family.laws c.args.first c.args.height c.requires.aligned c.requires.within
