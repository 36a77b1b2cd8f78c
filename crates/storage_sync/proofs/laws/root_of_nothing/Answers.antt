use Rattle.std.proofs.Common.{sym}
use Rattle.storage_sync.specs.Alike.{nothing}
use Rattle.storage_sync.proofs.Alike.{nothing_is, of_nothing}
use Rattle.storage_sync.proofs.laws.root_of_nothing.Goals as goal

pub returns : goal.returns
returns c = λ d h some sized g laws s snapshot same.
    of_nothing h g s snapshot (c.roots_bind_snapshots.ensures d h some sized g laws nothing s nothing_is snapshot (sym same))
