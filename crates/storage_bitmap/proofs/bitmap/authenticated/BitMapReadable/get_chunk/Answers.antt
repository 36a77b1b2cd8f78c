use Rattle.storage_bitmap.proofs.bitmap.authenticated.BitMapReadable.get_chunk.Goals as goal

pub returns : goal.returns
returns g c = rw (← c.self.view_is) c.get_chunk.ensures
