use Rattle.std.proofs.Common.{◌≡◌, length}
use Rattle.storage_current.specs.Laws.Grafting.{height_of_power}
use Rattle.storage_current.specs.Snapshots.{Grafting, IsGrafting, height}
use Rattle.library_tests.proofs.BothTrees.{served, some_weaker}
use Rattle.library_tests.proofs.joined.proof_from.Goals as goal

pub returns : goal.returns
returns g c =
    let text = g.H.Digest.Digest.text in
    let hash = g.H.Hasher.hash_of in
    let G : Grafting = record { shape = g.F.Family.shape; bytes = g.row.N } in
    let r = c.height-height.result in
    let level : height G ≡ r = height_of_power g.F.Family.shape g.row.N r c.height-height.ensures.power in
    let grafting : IsGrafting G = record { laws = g.met.F.Family.laws; size = c.requires.size } in
    let e = c.new-both.ensures in
    some_weaker c.proof_served.result _ _
    (λ proof own s chunks parts. own s (rw (e.height, e.grafted, e.operations) (served g.H.Hasher.digest_of text hash G r _ _ _ _ _ _ s _ _ level grafting
    c.joined_trees_answer_the_view.ensures chunks parts)))
    c.proof_served.ensures
