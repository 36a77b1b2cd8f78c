use Rattle.storage_sync.proofs.Joined.{all_taken}
use Rattle.storage_sync.proofs.laws.served_copies_are_whole.Goals as goal

pub returns : goal.returns
returns c = λ d h sized g grafting there prompt s bytes more old new may small run enough.
    all_taken c.own_current_proofs_are_accepted.ensures c.own_current_proofs_are_read_again.ensures d h sized g grafting there
    prompt s bytes more old new may small run enough
