use Rattle.storage_current.proofs.Keys.{absent}
use Rattle.storage_current.proofs.laws.keys.spanned_key_is_absent.Goals as goal

pub returns : goal.returns
returns g c = absent _ c.operations_settle_keys.ensures
