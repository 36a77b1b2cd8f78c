use Rattle.storage_current.proofs.Keys.{values}
use Rattle.storage_current.proofs.laws.keys.active_update_is_value.Goals as goal

pub returns : goal.returns
returns g c = values _ c.operations_settle_keys.ensures
