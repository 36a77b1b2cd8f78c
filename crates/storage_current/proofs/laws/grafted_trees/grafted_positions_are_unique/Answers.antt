use Rattle.storage_merkle.specs.Laws.Shape.{covers_back, covers_once}
use Rattle.storage_current.proofs.laws.grafted_trees.grafted_positions_are_unique.Goals as goal

pub returns-clause-down : goal.returns-clause-down
returns-clause-down g c height position = covers_once g.F.Family.shape g.met.F.Family.laws height position

pub returns-clause-up : goal.returns-clause-up
returns-clause-up g c height grafted p q = covers_back g.F.Family.shape g.met.F.Family.laws height p q grafted
