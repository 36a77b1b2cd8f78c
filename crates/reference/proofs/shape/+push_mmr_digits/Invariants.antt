use Rattle.reference.proofs.shape.+push_mmr_digits.Given as goal

abbrev pub decreases-push_mmr_digits : goal.decreases-push_mmr_digits
decreases-push_mmr_digits l = l.places
