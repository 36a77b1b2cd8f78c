use Rattle.storage_current.proofs.qmdb.current.grafting.rebuild.+is_coverable.Given as goal

abbrev pub decreases-is_coverable : goal.decreases-is_coverable
decreases-is_coverable g l = l.height
