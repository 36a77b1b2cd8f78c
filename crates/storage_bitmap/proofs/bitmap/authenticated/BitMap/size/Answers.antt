use Rattle.storage_bitmap.proofs.bitmap.authenticated.BitMap.size.Goals as goal

pub returns : goal.returns
returns g c = rw (← c.self.view_is) c.size.ensures
