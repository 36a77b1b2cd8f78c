use Rattle.storage_current.specs.Snapshots.{Grafting}
use Rattle.storage_current.proofs.PrunedViews.{keeps_true}
use Rattle.storage_current.proofs.laws.grafted_trees.grafted_trees_keep_the_view.Goals as goal

pub returns : goal.returns
returns g c s leaves grafted keeps =
    let G : Grafting = record { shape = g.F.Family.shape; bytes = g.row.N } in
    keeps_true g.H.Digest.Digest.text g.H.Hasher.hash_of G g.met.F.Family.laws s leaves grafted c.args.tree.now keeps
