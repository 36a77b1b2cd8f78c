use Rattle.std.proofs.Common.{◌*◌, ap}
use Rattle.storage_bitmap.proofs.bitmap.authenticated.BitMap.pruned_bits.Goals as goal

pub returns : goal.returns
returns g c = rw (← c.self.view_is) (ap (λ m. m * (8 * g.row.N)) c.pruned_chunks.ensures.value)
