use Rattle.std.proofs.Common.{◌≡◌, take}
use Rattle.storage_sync.proofs.sync.serve.proof.chunks_between.Given as goal

abbrev pub invariant-loop-chunk : goal.invariant-loop-chunk
invariant-loop-chunk g l = l.chunks.items ≡ take l.chunk-index l.chunk-items
