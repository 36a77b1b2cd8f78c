use Rattle.storage_current.proofs.Pins.{pins_bound}
use Rattle.storage_current.proofs.laws.pins.pins_are_bound.Goals as goal

pub returns : goal.returns
returns c = pins_bound
