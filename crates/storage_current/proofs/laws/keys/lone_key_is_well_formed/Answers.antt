use Rattle.storage_current.proofs.WellFormed.{lone_key}
use Rattle.storage_current.proofs.laws.keys.lone_key_is_well_formed.Goals as goal

pub returns : goal.returns
returns g c = lone_key _ c.operations_settle_keys.ensures
