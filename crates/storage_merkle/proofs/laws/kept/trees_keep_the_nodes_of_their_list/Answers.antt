use Rattle.storage_merkle.proofs.MemBoundary.{retained}
use Rattle.storage_merkle.proofs.laws.kept.trees_keep_the_nodes_of_their_list.Goals as goal

pub returns : goal.returns
returns g c N list stands position first height node from within =
    let w = c.is_whole.ensures in
    retained g.D.Digest.text g.F.Family.shape
    (N list) list c.args.tree.now w.count stands.count stands.holds position first height node from within
