use Rattle.reference.proofs.count.+most_exact.Given as goal

abbrev pub decreases-most_exact : goal.decreases-most_exact
decreases-most_exact l = l.bound
