use Rattle.std.proofs.Common.{◌-◌, ◌<◌, ◌≤◌}
use Rattle.storage_merkle.specs.Shape.{size}
use Rattle.storage_merkle.proofs.merkle.countable.most_leaves_within.Given as goal

abbrev pub invariant-loop-low : goal.invariant-loop-low
invariant-loop-low g l = record {
  order : l.low < l.high;
  few : l.high ≤ l.initial.high;
  low : size g.F.Family.shape l.low ≤ l.nodes;
  high : l.nodes < size g.F.Family.shape l.high;
}

abbrev pub decreases-loop-low : goal.decreases-loop-low
decreases-loop-low g l = l.high - l.low
