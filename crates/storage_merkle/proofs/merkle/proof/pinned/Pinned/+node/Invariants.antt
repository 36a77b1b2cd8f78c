use Rattle.storage_merkle.proofs.merkle.proof.pinned.Pinned.+node.Given as goal

abbrev pub decreases-node : goal.decreases-node
decreases-node g l = l.height
