use Rattle.std.proofs.Common.{refl, sym}
use Rattle.storage_current.specs.Snapshots.{Grafting, IsGrafting, height}
use Rattle.storage_current.proofs.SnapshotTails.{tail_stands, trees_told}
use Rattle.storage_current.proofs.qmdb.current.snapshot_tail.SnapshotTail.of_trees.Goals as goal

pub returns-clause-stands : goal.returns-clause-stands
returns-clause-stands g c = λ s snapshot of floor.
    let G : Grafting = record { shape = g.F.Family.shape; bytes = g.row.N } in
    let L = g.met.F.Family.laws in
    let text = g.H.Digest.Digest.text in
    let h = g.H.Hasher.hash_of in
    let m = c.args.operations in
    let k = c.args.chunks in
    let grafting : IsGrafting G = record { laws = L; size = c.requires.trees.sized } in
    let told = trees_told G L m k c.args.status c.requires.trees (g.met.F.Graftable.keeps_pace (height G))
    c.trees_keep_each_node_behind_their_boundary.ensures c.trees_keep_each_node_behind_their_boundary-2.ensures text h grafting
    c.trees_keep_the_nodes_of_their_list.ensures c.trees_keep_the_nodes_of_their_list-2.ensures s snapshot of in
    tail_stands text h G L m k c.args.status c.requires.trees s c.args.floor _ _ _ of floor
    (c.over_trees-roots.ensures s of.bits (sym floor) of.over told)
