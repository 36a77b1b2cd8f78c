use Rattle.storage_merkle.proofs.merkle.multi.needed.LocationLocated.location.Goals as goal

pub returns : goal.returns
returns g c = c.as_u64.ensures
