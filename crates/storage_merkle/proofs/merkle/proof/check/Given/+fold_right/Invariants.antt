use Rattle.storage_merkle.proofs.merkle.proof.check.Given.+fold_right.Given as goal

abbrev pub decreases-fold_right : goal.decreases-fold_right
decreases-fold_right g l = l.rest.left
