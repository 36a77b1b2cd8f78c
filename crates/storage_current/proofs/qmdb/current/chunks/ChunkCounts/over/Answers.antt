use Rattle.std.proofs.Common.{arith}
use Rattle.storage_current.specs.Laws.Grafting.{graftable_is}
use Rattle.storage_current.proofs.Windows.{graftable_within}
use Rattle.storage_current.proofs.qmdb.current.chunks.ChunkCounts.over.Goals as goal

pub returns-clause-graftable : goal.returns-clause-graftable
returns-clause-graftable g c = graftable_is g.F.Family.shape g.met.F.Family.laws c.args.height c.args.leaves
    c.graftable_chunks.result c.graftable_chunks.ensures

pub returns-clause-within : goal.returns-clause-within
returns-clause-within g c =
    let e = graftable_is g.F.Family.shape g.met.F.Family.laws c.args.height c.args.leaves c.graftable_chunks.result
    c.graftable_chunks.ensures in
    let w = graftable_within g.F.Family.shape g.met.F.Family.laws c.args.height c.args.leaves in
    omega (arith, e, w)
