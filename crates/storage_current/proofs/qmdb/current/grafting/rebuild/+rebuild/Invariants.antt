use Rattle.storage_current.proofs.qmdb.current.grafting.rebuild.+rebuild.Given as goal

abbrev pub decreases-rebuild : goal.decreases-rebuild
decreases-rebuild g l = l.height
