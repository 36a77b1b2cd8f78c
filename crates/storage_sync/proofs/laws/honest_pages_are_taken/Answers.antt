use Rattle.storage_sync.proofs.Own.{honest_taken}
use Rattle.storage_sync.proofs.laws.honest_pages_are_taken.Goals as goal

pub returns : goal.returns
returns c = λ d h sized g grafting there prompt t small s bytes honest refusal wrong.
    honest_taken c.own_current_proofs_are_accepted.ensures c.own_current_proofs_are_read_again.ensures d h sized g grafting
    there prompt t small s bytes honest refusal wrong
