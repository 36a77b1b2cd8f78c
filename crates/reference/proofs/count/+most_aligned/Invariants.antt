use Rattle.reference.proofs.count.+most_aligned.Given as goal

abbrev pub decreases-most_aligned : goal.decreases-most_aligned
decreases-most_aligned l = l.bound
