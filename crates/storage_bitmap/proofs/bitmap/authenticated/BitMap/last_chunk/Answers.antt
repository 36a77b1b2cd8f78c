use Rattle.storage_bitmap.proofs.Bits.{clear_chunk}
use Rattle.std.proofs.Common.{arith}
use Rattle.std.proofs.lemmas.Grind.{common_steps}
use Rattle.storage_bitmap.proofs.bitmap.authenticated.BitMap.last_chunk.Goals as goal

pub returns-in_default-clause-chunk : goal.returns-in_default-clause-chunk
returns-in_default-clause-chunk g c = rw (← c.self.view_is) (clear_chunk g.row.N c.self.inside.clear.bytes
    c.self.inside.bits.bits c.in_default.ensures c.self.inside.clear.clear)

pub returns-clause-count : goal.returns-clause-count
returns-clause-count g c = grind (arith, common_steps)

pub overflow_sub-result : goal.overflow_sub-result
overflow_sub-result g c = grind (arith, common_steps)
