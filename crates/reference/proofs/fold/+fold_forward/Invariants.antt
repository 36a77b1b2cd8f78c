use Rattle.std.proofs.Common.{length}
use Rattle.reference.proofs.fold.+fold_forward.Given as goal

abbrev pub decreases-fold_forward : goal.decreases-fold_forward
decreases-fold_forward g l = length l.others.now
