use Rattle.std.proofs.Common.{◌≡◌, map, take}
use Rattle.storage_current.proofs.qmdb.current.proof.lend.Given as goal

abbrev pub invariant-loop-chunk : goal.invariant-loop-chunk
invariant-loop-chunk g l = map (λ c. c.now) l.lent.items ≡ map g.C.Chunk.text (take l.chunk-index l.chunks)
