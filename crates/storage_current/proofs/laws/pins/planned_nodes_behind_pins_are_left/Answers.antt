use Rattle.storage_current.specs.Snapshots.{grafting_of}
use Rattle.storage_current.proofs.Tails.{planned_left}
use Rattle.storage_current.proofs.laws.pins.planned_nodes_behind_pins_are_left.Goals as goal

pub returns : goal.returns
returns c = λ S bytes. planned_left c.greatest_nodes_are_planned.ensures (grafting_of S bytes)
