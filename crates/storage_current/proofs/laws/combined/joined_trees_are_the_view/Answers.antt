use Rattle.std.proofs.Common.{length}
use Rattle.storage_current.specs.CombinedViews.{grafted_node}
use Rattle.storage_current.specs.GraftedTrees.{regrafted}
use Rattle.storage_current.specs.Snapshots.{Grafting, graftable, height}
use Rattle.storage_current.proofs.CombinedViews.{grafted_halves, joined_view}
use Rattle.storage_current.proofs.PrunedViews.{regrafted_each}
use Rattle.storage_current.proofs.laws.combined.joined_trees_are_the_view.Goals as goal

pub returns : goal.returns
returns g c grafting s snapshot kept operations over each below =
    let text = g.H.Digest.Digest.text in
    let hash = g.H.Hasher.hash_of in
    let digest = g.H.Hasher.digest_of in
    let G : Grafting = record { shape = g.F.Family.shape; bytes = g.row.N } in
    let pace = g.met.F.Graftable.keeps_pace (height G) in
    joined_view hash G pace grafting s snapshot (regrafted digest text G.shape (height G) kept) operations text
    (regrafted_each digest text hash g.met.H.Hasher.told G.shape grafting.laws (height G)
    (graftable G (length s.operations)) (grafted_node hash G s) (grafted_halves hash G s) kept over each) below
