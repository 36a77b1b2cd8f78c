use Rattle.std.proofs.Common.{◌+◌, ◌-◌, ◌≤◌}
use Rattle.storage_merkle.specs.Inactive.{Reached, Best}
use Rattle.storage_current.proofs.qmdb.current.grafting.positions.chunk_aligned_inactive_peaks.Given as goal

abbrev pub invariant-loop-left : goal.invariant-loop-left
invariant-loop-left g l = record {
  below : l.left ≤ l.leaves;
  small : l.count + l.left ≤ l.leaves;
  reached : Reached g.F.Family.shape l.leaves l.left l.count;
  early : l.leaves - l.left ≤ l.floor;
  best : Best g.F.Family.shape l.leaves l.height l.count l.best;
}

abbrev pub decreases-loop-left : goal.decreases-loop-left
decreases-loop-left g l = l.left
