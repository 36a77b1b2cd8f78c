use Rattle.reference.proofs.shape.+push_mmb_digits.Given as goal

abbrev pub decreases-push_mmb_digits : goal.decreases-push_mmb_digits
decreases-push_mmb_digits l = l.places
