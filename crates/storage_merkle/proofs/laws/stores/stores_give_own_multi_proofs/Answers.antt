use Rattle.storage_merkle.proofs.Store.Multi.{multi_own}
use Rattle.storage_merkle.proofs.laws.stores.stores_give_own_multi_proofs.Goals as goal

pub returns : goal.returns
returns g c = λ h T L store content inactive st peaks trues ls none.
    multi_own h T L store content inactive st peaks trues _ ls none
