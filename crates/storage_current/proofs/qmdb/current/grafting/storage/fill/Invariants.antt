use Rattle.std.proofs.Common.{◌≡◌, ◌≤◌, ◌++◌, length}
use Rattle.storage_current.specs.Splits.{filled, gaps}
use Rattle.storage_current.proofs.qmdb.current.grafting.storage.fill.Given as goal

abbrev pub invariant-loop-node : goal.invariant-loop-node
invariant-loop-node g l = record {
  enough : gaps l.left ≤ length l.unused;
  same : l.digests.items ++ filled l.left l.unused ≡ filled l.nodes l.read;
}

abbrev pub decreases-loop-node : goal.decreases-loop-node
decreases-loop-node g l = length l.left
