use Rattle.reference.proofs.bit.+push_chunks.Given as goal

abbrev pub decreases-push_chunks : goal.decreases-push_chunks
decreases-push_chunks l = l.count
