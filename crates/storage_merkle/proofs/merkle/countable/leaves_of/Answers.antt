use Rattle.std.proofs.Common.{arith, ◌+◌}
use Rattle.storage_merkle.proofs.Countable.{no_tree}
use Rattle.storage_merkle.proofs.merkle.countable.leaves_of.Goals as goal

pub returns-else-nodes_over-nodes : goal.returns-else-nodes_over-nodes
returns-else-nodes_over-nodes g c = λ n same.
    no_tree g.F.Family.shape g.met.F.Family.laws c.most_leaves_within-leaves.result (c.most_leaves_within-leaves.result + 1)
    c.as_u64-nodes.result (omega arith)
    (omega (arith, c.most_leaves_within-leaves.ensures.low, c.if-nodes_over-nodes.false, c.nodes_over.ensures))
    c.most_leaves_within-leaves.ensures.high n (omega (arith, same, c.as_u64-nodes.ensures))
