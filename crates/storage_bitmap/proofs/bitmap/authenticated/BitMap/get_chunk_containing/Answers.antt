use Rattle.storage_bitmap.proofs.bitmap.authenticated.BitMap.get_chunk_containing.Goals as goal

pub returns : goal.returns
returns g c = rw (← c.self.view_is) c.lend_chunk.ensures
