use Rattle.storage_merkle.proofs.Store.Made.{stores_true}
use Rattle.storage_merkle.proofs.laws.stores.stores_of_accepted_proofs_are_true.Goals as goal

pub returns : goal.returns
returns c = stores_true
