use Rattle.storage_bitmap.proofs.Bits.{last_of}
use Rattle.storage_bitmap.proofs.bitmap.prunable.Prunable.last_chunk.Goals as goal

pub returns : goal.returns
returns g c = rw (← c.self.view_is) (last_of g.row.N c.self.inside.pruned c.self.inside.kept c.self.inside.bytes.items
    c.last_chunk.result c.self.invariant (rw c.deref.ensures.value at c.last_chunk.ensures.cases))
