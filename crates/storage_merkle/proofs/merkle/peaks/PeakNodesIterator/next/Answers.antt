use Rattle.std.proofs.Common.{◌≡◌, [], length, arith, sym, ap, ◌∙◌}
use Rattle.storage_merkle.specs.Laws.Shape.{no_peaks, step}
use Rattle.storage_merkle.specs.Trees.{places}
use Rattle.storage_merkle.proofs.Plan.Folds.{no_peaks_from}
use Rattle.storage_merkle.proofs.merkle.peaks.PeakNodesIterator.next.Goals as goal

pub returns-then-self-eq0-clause-steps : goal.returns-then-self-eq0-clause-steps
returns-then-self-eq0-clause-steps g c =
    let S = g.F.Family.shape in
    let none : c.args.self.now ≡ [] = sym c.self.view_is
    ∙ no_peaks_from S c.self.inside.first c.self.inside.left (no_peaks S g.met.F.Family.laws)
    (omega (arith, c.if-self-eq0.true)) in
    (none, none)

pub invariant_of-self : goal.invariant_of-self
invariant_of-self g c =
    let s = step g.F.Family.shape g.met.F.Family.laws c.self.inside.first c.self.inside.left c.first_peak-height.result
    c.self.invariant.0 c.self.invariant.1 c.first_peak-height.ensures.first in
    (omega (arith, s.within, c.power-length.ensures, c.self.invariant.0), rw c.power-length.ensures s.rest)

pub returns-clause-steps : goal.returns-clause-steps
returns-clause-steps g c =
    let s = step g.F.Family.shape g.met.F.Family.laws c.self.inside.first c.self.inside.left c.first_peak-height.result
    c.self.invariant.0 c.self.invariant.1 c.first_peak-height.ensures.first in
    rw c.power-length.ensures (
      sym c.self.view_is ∙ ap (places c.self.inside.first) c.first_peak-height.ensures.first,
      record { aligned = s.aligned; small = s.small; fits = omega (arith, s.within, c.self.invariant.0) },
    )

pub returns-clause-goes : goal.returns-clause-goes
returns-clause-goes g c = record {
  on = λ f. (tt, tt, omega (arith, ap length (returns-clause-steps g c).0));
  keeps = tt;
  rests = λ f. tt;
}
