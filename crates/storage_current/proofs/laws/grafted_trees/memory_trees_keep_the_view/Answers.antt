use Rattle.std.proofs.Common.{◌≡◌, ◌+◌, ◌^◌, ◌<◌, ◌≤◌, length, arith, ◌∙◌}
use Rattle.storage_merkle.specs.Kept.{NodesOver}
use Rattle.storage_merkle.specs.Shape.{size}
use Rattle.storage_current.specs.CombinedViews.{chunk_node}
use Rattle.storage_current.specs.Snapshots.{Grafting}
use Rattle.storage_current.proofs.CombinedViews.{over_view}
use Rattle.storage_current.proofs.KeptChunks.{memory_each, memory_true}
use Rattle.storage_current.proofs.laws.grafted_trees.memory_trees_keep_the_view.Goals as goal

pub returns-clause-truth : goal.returns-clause-truth
returns-clause-truth g c s leaves grafted stands p a k d within node is =
    let S = g.F.Family.shape in
    let L = g.met.F.Family.laws in
    let text = g.H.Digest.Digest.text in
    let hash = g.H.Hasher.hash_of in
    let G : Grafting = record { shape = S; bytes = g.row.N } in
    let N : NodesOver = λ list k a. chunk_node hash G list a k in
    let here : S.position a k < size S (length leaves) = omega (arith, node.at) in
    let born : S.birth a k ≤ length leaves = (L.born (length leaves) a k node.aligned).0 here in
    memory_true S L text N c.args.tree.now leaves stands
    (c.trees_keep_the_nodes_of_their_list.ensures N leaves stands) p a k d within node is
    ∙ over_view hash G s leaves grafted k a (omega (arith, born, L.late a k))

pub returns-clause-whole : goal.returns-clause-whole
returns-clause-whole g c N leaves whole stands =
    memory_each g.F.Family.shape g.met.F.Family.laws g.H.Digest.Digest.text N c.args.tree.now leaves stands
    (c.trees_keep_the_nodes_of_their_list.ensures N leaves stands) whole
