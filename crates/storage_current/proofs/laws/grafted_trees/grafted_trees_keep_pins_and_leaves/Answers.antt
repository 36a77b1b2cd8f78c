use Rattle.storage_current.proofs.KeptChunks.{keeps_leaves, keeps_none, keeps_pins}
use Rattle.storage_current.proofs.laws.grafted_trees.grafted_trees_keep_pins_and_leaves.Goals as goal

pub returns-clause-pins : goal.returns-clause-pins
returns-clause-pins g c N list keeps =
    keeps_pins g.F.Family.shape g.met.F.Family.laws g.D.Digest.text N c.args.tree.now list keeps

pub returns-clause-leaves : goal.returns-clause-leaves
returns-clause-leaves g c N list keeps =
    keeps_leaves g.F.Family.shape g.met.F.Family.laws g.D.Digest.text N c.args.tree.now list keeps

pub returns-clause-none : goal.returns-clause-none
returns-clause-none g c =
    let t = c.args.tree.now in
    keeps_none g.F.Family.shape g.met.F.Family.laws t.pruned t.pinned t.leaves
