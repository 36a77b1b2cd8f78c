use Rattle.storage_merkle.proofs.Greatest.{greatest_nodes_are_planned}
use Rattle.storage_merkle.proofs.laws.greatest_nodes_are_planned.Goals as goal

pub returns : goal.returns
returns c = greatest_nodes_are_planned
