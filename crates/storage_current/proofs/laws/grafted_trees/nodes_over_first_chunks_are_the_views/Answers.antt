use Rattle.storage_current.specs.Snapshots.{Grafting}
use Rattle.storage_current.proofs.CombinedViews.{grafted_halves, over_view}
use Rattle.storage_current.proofs.laws.grafted_trees.nodes_over_first_chunks_are_the_views.Goals as goal

pub returns-clause-hashed : goal.returns-clause-hashed
returns-clause-hashed g c s =
    let G : Grafting = record { shape = g.F.Family.shape; bytes = g.row.N } in
    grafted_halves g.H.Hasher.hash_of G s

pub returns-clause-same : goal.returns-clause-same
returns-clause-same g c s leaves grafted first own within =
    let G : Grafting = record { shape = g.F.Family.shape; bytes = g.row.N } in
    over_view g.H.Hasher.hash_of G s leaves grafted own first within
