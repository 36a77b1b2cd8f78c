use Rattle.storage_merkle.proofs.merkle.plan.digests.Nodes.+fold_back.Given as goal

abbrev pub decreases-fold_back : goal.decreases-fold_back
decreases-fold_back g l = l.left
