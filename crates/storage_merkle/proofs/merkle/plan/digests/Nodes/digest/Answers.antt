use Rattle.storage_merkle.proofs.Plan.ByPosition.{not_found, found}
use Rattle.storage_merkle.proofs.merkle.plan.digests.Nodes.digest.Goals as goal

pub unreachable-requires : goal.unreachable-requires
unreachable-requires g c = not_found c.args.self.now.positions.now c.args.position c.in-Err.field-0
    c.binary_search.result c.binary_search.ensures.position c.in-Err.is c.requires.order.rising c.requires.among

pub returns : goal.returns
returns g c = found c.args.self.now.positions.now c.args.self.now.digests.now c.args.position c.in-Ok.index
    c.binary_search.result _ c.binary_search.ensures.position c.in-Ok.is c.requires.order
