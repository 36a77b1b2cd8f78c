use Rattle.storage_sync.proofs.Floors.{copies_of_all}
use Rattle.storage_sync.proofs.laws.tails_are_copies.Goals as goal

pub returns : goal.returns
returns c = copies_of_all
