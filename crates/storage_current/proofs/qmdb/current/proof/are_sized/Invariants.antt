use Rattle.std.proofs.Common.{◌↔◌, map, drop}
use Rattle.storage_merkle.specs.RangeProofs.{AreDigests}
use Rattle.storage_current.proofs.qmdb.current.proof.are_sized.Given as goal

abbrev pub invariant-loop-chunk : goal.invariant-loop-chunk
invariant-loop-chunk g l = AreDigests l.size (map g.C.Chunk.text (drop l.chunk-index l.chunks))
    ↔ AreDigests l.size (map g.C.Chunk.text l.chunks)
