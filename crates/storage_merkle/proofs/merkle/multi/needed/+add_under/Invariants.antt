use Rattle.storage_merkle.proofs.merkle.multi.needed.+add_under.Given as goal

abbrev pub decreases-add_under : goal.decreases-add_under
decreases-add_under g l = l.height
