use Rattle.storage_bitmap.proofs.bitmap.authenticated.merkleized.BitMap+D+N+Merkleized+D.get_node.Goals as goal

pub returns : goal.returns
returns g c = rw (← c.self.view_is) c.get_node.ensures
