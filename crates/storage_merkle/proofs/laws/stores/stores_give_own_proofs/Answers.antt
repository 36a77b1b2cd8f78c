use Rattle.storage_merkle.proofs.Store.Own.{stores_give_own}
use Rattle.storage_merkle.proofs.laws.stores.stores_give_own_proofs.Goals as goal

pub returns : goal.returns
returns g c = stores_give_own _
