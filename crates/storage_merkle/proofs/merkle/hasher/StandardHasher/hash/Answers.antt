use Rattle.storage_merkle.proofs.merkle.hasher.StandardHasher.hash.Goals as goal

pub returns : goal.returns
returns g c = c.hash_joined.ensures
