use Rattle.std.proofs.Common.{◌≡◌, ◌+◌, length}
use Rattle.storage_merkle.specs.Rests.{peaks_from}
use Rattle.storage_merkle.specs.Walked.{walked}
use Rattle.storage_merkle.proofs.merkle.proof.check.count_apart.Given as goal

abbrev pub invariant-loop-top : goal.invariant-loop-top
invariant-loop-top g l = l.count + length l._top-iterator ≡ length (walked l.fn.start l.fn.end
    (peaks_from g.F.Family.shape l.fn.rest.first l.fn.rest.left) l.fn.rest.folded)
