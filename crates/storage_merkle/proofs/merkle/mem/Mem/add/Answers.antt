use Rattle.storage_merkle.proofs.merkle.mem.Mem.add.Goals as goal

pub returns-clause-grown : goal.returns-clause-grown
returns-clause-grown g c = rw (← c.size.ensures, ← c.leaf_digest-digest.ensures) c.add_leaf.ensures.grown
