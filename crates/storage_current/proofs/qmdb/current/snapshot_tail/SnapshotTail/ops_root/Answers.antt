use Rattle.std.proofs.Common.{refl}
use Rattle.storage_current.proofs.qmdb.current.snapshot_tail.SnapshotTail.ops_root.Goals as goal

pub returns-clause-value : goal.returns-clause-value
returns-clause-value g c = rw (← c.self.view_is) refl
