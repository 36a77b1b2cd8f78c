use Rattle.storage_current.proofs.Keys.{none_at_floor}
use Rattle.storage_current.proofs.laws.keys.commit_at_floor_is_empty.Goals as goal

pub returns : goal.returns
returns g c = none_at_floor _ c.operations_settle_keys.ensures
