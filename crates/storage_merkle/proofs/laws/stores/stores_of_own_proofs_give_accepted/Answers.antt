use Rattle.storage_merkle.proofs.Store.Made.{made_of_own}
use Rattle.storage_merkle.proofs.Store.Own.{stores_give_own}
use Rattle.storage_merkle.proofs.Store.Given.{range_accepted, multi_accepted}
use Rattle.storage_merkle.proofs.laws.stores.stores_of_own_proofs_give_accepted.Goals as goal

pub returns : goal.returns
returns g c = λ h T L b proof start claim content inactive few peaks_few some is.
    let st = made_of_own h T L b proof start claim content inactive is some in
    record {
      of_tree = st;
      own = λ low high none. stores_give_own _ h T L _ content inactive st low high none;
      ranges = λ low part stand same none.
          range_accepted _ h T L _ content inactive few peaks_few st low part stand same none;
      multi = λ peaks trues claims stand none.
          multi_accepted _ h T L _ content inactive few peaks_few st peaks trues claims stand none;
    }
