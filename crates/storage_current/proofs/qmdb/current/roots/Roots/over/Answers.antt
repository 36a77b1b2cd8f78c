use Rattle.std.proofs.Common.{rules}
use Rattle.storage_current.specs.SnapshotTails.{AreTrees}
use Rattle.storage_current.specs.Snapshots.{Grafting}
use Rattle.storage_current.proofs.SnapshotTails.{trees_of_kept}
use Rattle.storage_current.proofs.qmdb.current.roots.Roots.over.Goals as goal

pub over_trees-requires : goal.over_trees-requires
over_trees-requires g c =
    let G : Grafting = record { shape = g.F.Family.shape; bytes = g.row.N } in
    let trees : AreTrees G c.args.operations.now c.args.chunks.now c.args.status.now =
    trees_of_kept g.D.Digest.text g.H.Hasher.hash_of G g.met.F.Family.laws c.args.operations.now c.args.chunks.now c.args.status.now
    c.requires.kept in
    search rules
