use Rattle.std.proofs.Common.{◌≡◌, length}
use Rattle.std.specs.Prelude.{IsSome}
use Rattle.storage_current.specs.Laws.Grafting.{height_of_power}
use Rattle.storage_current.specs.Snapshots.{Grafting, IsGrafting, height}
use Rattle.library_tests.proofs.BothTrees.{planned_had, match_ok}
use Rattle.library_tests.proofs.joined.planned_node_from.Goals as goal

pub returns : goal.returns
returns g c =
    let text = g.H.Digest.Digest.text in
    let hash = g.H.Hasher.hash_of in
    let G : Grafting = record { shape = g.F.Family.shape; bytes = g.row.N } in
    let r = c.height-height.result in
    let level : height G ≡ r = height_of_power g.F.Family.shape g.row.N r c.height-height.ensures.power in
    let grafting : IsGrafting G = record { laws = g.met.F.Family.laws; size = c.requires.size } in
    let e = c.new-both.ensures in
    match_ok c.get_node.result _ _ _
    (λ node is s status floor low high ops_root chunks parts have there.
    rw is (rw (e.height, e.grafted, e.operations)
    (planned_had g.H.Hasher.digest_of text hash G r _ _ _ status floor ops_root s low high _ level grafting
    c.planned_nodes_serve_a_range.ensures chunks parts have there)))
    c.get_node.ensures.answer
