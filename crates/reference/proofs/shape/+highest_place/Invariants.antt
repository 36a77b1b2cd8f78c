use Rattle.reference.proofs.shape.+highest_place.Given as goal

abbrev pub decreases-highest_place : goal.decreases-highest_place
decreases-highest_place l = l.place
