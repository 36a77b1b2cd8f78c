use Rattle.std.proofs.Common.{length}
use Rattle.storage_current.specs.CombinedViews.{grafted_node, had_of_both}
use Rattle.storage_current.specs.GraftedTrees.{regrafted}
use Rattle.storage_current.specs.Snapshots.{Grafting, graftable, height}
use Rattle.storage_current.proofs.CombinedViews.{grafted_halves, joined_true}
use Rattle.storage_current.proofs.PrunedViews.{regrafted_true}
use Rattle.storage_current.proofs.StoresOfViews.{served_true}
use Rattle.storage_current.proofs.laws.combined.joined_trees_answer_the_view.Goals as goal

pub returns : goal.returns
returns g c grafting s snapshot kept operations over below =
    let text = g.H.Digest.Digest.text in
    let hash = g.H.Hasher.hash_of in
    let digest = g.H.Hasher.digest_of in
    let G : Grafting = record { shape = g.F.Family.shape; bytes = g.row.N } in
    let pace = g.met.F.Graftable.keeps_pace (height G) in
    let true_of = joined_true hash G pace grafting s snapshot (regrafted digest text G.shape (height G) kept) operations text
    (regrafted_true digest text hash g.met.H.Hasher.told G.shape grafting.laws (height G)
    (graftable G (length s.operations)) (grafted_node hash G s) (grafted_halves hash G s) kept over) below in (
      true_of,
      served_true text hash G grafting.laws c.greatest_nodes_are_planned.ensures s
          (had_of_both digest text G s kept operations) true_of,
    )
