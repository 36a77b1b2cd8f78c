use Rattle.storage_merkle.specs.Laws.Shape.{same_node, every}
use Rattle.storage_merkle.proofs.laws.families.positions_are_of_one_node.Goals as goal

pub returns-clause-once : goal.returns-clause-once
returns-clause-once g c = same_node g.F.Family.shape g.met.F.Family.laws

pub returns-clause-every : goal.returns-clause-every
returns-clause-every g c = every g.F.Family.shape g.met.F.Family.laws
