use Rattle.storage_bitmap.proofs.bitmap.authenticated.BitMap.len.Goals as goal

pub returns-clause-value : goal.returns-clause-value
returns-clause-value g c = rw (← c.self.view_is) c.len.ensures.value
