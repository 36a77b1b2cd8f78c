use Rattle.storage_current.proofs.KeptChunks.{coverable_top, coverable_within, unpruned_each}
use Rattle.storage_current.proofs.Pinned.{covered}
use Rattle.storage_current.proofs.laws.grafted_trees.nodes_inside_no_pin_are_coverable.Goals as goal

pub returns-clause-coverable : goal.returns-clause-coverable
returns-clause-coverable g c position first height node =
    let S = g.F.Family.shape in
    let L = g.met.F.Family.laws in
    let t = c.args.tree.now in (
      (λ coverable. (
        coverable_within S L t.pruned t.pinned t.leaves height first node.aligned coverable,
        coverable_top S L t.pruned t.pinned t.leaves height first node.aligned coverable,
      )),
      (λ outside. covered S L t.pruned t.pinned t.leaves c.is_whole.ensures.pins height first node.aligned outside.0 outside.1),
    )

pub returns-clause-whole : goal.returns-clause-whole
returns-clause-whole g c unpruned =
    let t = c.args.tree.now in
    unpruned_each g.F.Family.shape g.met.F.Family.laws t.pruned t.pinned t.leaves c.is_whole.ensures.pins unpruned
