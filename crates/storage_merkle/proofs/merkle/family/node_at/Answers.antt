use Rattle.std.proofs.Common.{arith, rules}
use Rattle.storage_merkle.specs.Laws.Shape.{node_small, node_birth}
use Rattle.storage_merkle.proofs.merkle.family.node_at.Goals as goal

pub returns-clause-small : goal.returns-clause-small
returns-clause-small g c = (node_small g.F.Family.shape g.met.F.Family.laws _ _ _ c.node_after.ensures (omega arith)).0

pub returns-clause-few : goal.returns-clause-few
returns-clause-few g c = (node_small g.F.Family.shape g.met.F.Family.laws _ _ _ c.node_after.ensures (omega arith)).1

pub returns-clause-birth : goal.returns-clause-birth
returns-clause-birth g c = node_birth g.F.Family.shape g.met.F.Family.laws _ _ _ c.node_after.ensures (omega arith)

pub returns-clause-node : goal.returns-clause-node
returns-clause-node g c = search rules
