use Rattle.std.proofs.Common.{◌≡◌, ◌-◌}
use Rattle.storage_bitmap.specs.Chunks.{chunks_from}
use Rattle.storage_current.proofs.qmdb.current.proof.with_ops.touched_chunks.Given as goal

abbrev pub invariant-loop-index : goal.invariant-loop-index
invariant-loop-index g l = l.chunks.items ≡ chunks_from g.row.N (g.R.Readable.retained l.status).bits
    (l.index - l.first) (l.first - (g.R.Readable.retained l.status).pruned)
