use Rattle.std.proofs.Common.{arith, rules, ◌*◌}
use Rattle.storage_current.proofs.Heights.{below_product, size_some}
use Rattle.storage_current.proofs.qmdb.current.chunks.ChunkCounts.pending.Goals as goal

pub get_chunk-requires : goal.get_chunk-requires
get_chunk-requires g c = (
  omega (arith, c.requires.chunks.1),
  (
    c.requires.unpruned,
    below_product c.args.self.now.graftable c.args.self.now.complete (8 * g.row.N) _ (search rules) c.requires.within
        (omega (arith, size_some g.row.N c.requires.chunks)),
  ),
)
