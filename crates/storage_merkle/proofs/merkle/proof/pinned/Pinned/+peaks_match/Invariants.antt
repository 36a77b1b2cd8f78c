use Rattle.storage_merkle.proofs.merkle.proof.pinned.Pinned.+peaks_match.Given as goal

abbrev pub decreases-peaks_match : goal.decreases-peaks_match
decreases-peaks_match g l = l.rest.left
