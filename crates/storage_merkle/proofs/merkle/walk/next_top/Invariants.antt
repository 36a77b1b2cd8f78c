use Rattle.std.proofs.Common.{◌≡◌, ◌+◌, ◌≤◌}
use Rattle.storage_merkle.specs.Rests.{peaks_from}
use Rattle.storage_merkle.specs.Shape.{AreAligned, max_leaves}
use Rattle.storage_merkle.specs.Walked.{walked}
use Rattle.storage_merkle.proofs.merkle.walk.next_top.Given as goal

abbrev pub invariant-loop-rest : goal.invariant-loop-rest
invariant-loop-rest g l = record {
  few : l.rest.first + l.rest.left ≤ max_leaves;
  aligned : AreAligned (g.F.Family.shape.peaks l.rest.left) l.rest.first;
  same : walked l.start l.end (peaks_from g.F.Family.shape l.rest.first l.rest.left) l.rest.folded
      ≡ walked l.start l.end (peaks_from g.F.Family.shape l.fn.rest.first l.fn.rest.left) l.fn.rest.folded;
}

abbrev pub decreases-loop-rest : goal.decreases-loop-rest
decreases-loop-rest g l = l.rest.left
