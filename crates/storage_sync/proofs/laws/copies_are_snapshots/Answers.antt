use Rattle.storage_sync.proofs.Copies.{snapshots}
use Rattle.storage_sync.proofs.laws.copies_are_snapshots.Goals as goal

pub returns : goal.returns
returns c = λ h g s operations bits ops_root floor copy floor_is.
    snapshots h g s operations bits ops_root floor copy floor_is
