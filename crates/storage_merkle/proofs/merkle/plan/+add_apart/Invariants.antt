use Rattle.storage_merkle.proofs.merkle.plan.+add_apart.Given as goal

abbrev pub decreases-add_apart : goal.decreases-add_apart
decreases-add_apart g l = l.height
