use Rattle.std.proofs.Common.{◌≡◌, [], length, arith, inl, inr, sym, ap, ◌∙◌}
use Rattle.storage_merkle.specs.Laws.Shape.{step}
use Rattle.storage_merkle.proofs.Walked.{leads, leads_end, leads_not, leads_unfolded}
use Rattle.storage_merkle.proofs.merkle.walk.LeadingIterator.next.Goals as goal

pub returns-then-rest-eq0-clause-steps : goal.returns-then-rest-eq0-clause-steps
returns-then-rest-eq0-clause-steps g c =
    let S = g.F.Family.shape in
    let r = c.self.inside.rest in
    let none : c.args.self.now ≡ [] = sym c.self.view_is ∙ elim c.then-rest-eq0.either [
      | inl e ↦ leads_end S c.self.inside.start r.first r.left g.met.F.Family.laws r.folded (omega (arith, e))
      | inr e ↦ leads_unfolded S c.self.inside.start r.first r.left r.folded (omega (arith, e.1))
    ] in
    (none, none)

pub returns-then-rest-power-clause-steps : goal.returns-then-rest-power-clause-steps
returns-then-rest-power-clause-steps g c =
    let r = c.self.inside.rest in
    let none : c.args.self.now ≡ [] = sym c.self.view_is ∙ leads_not g.F.Family.shape c.self.inside.start r.first r.left
    c.first_peak-height.result c.first_peak-height.ensures.first r.folded
    (omega (arith, c.if-rest-power.true, c.power.ensures)) in
    (none, none)

pub invariant_of-self : goal.invariant_of-self
invariant_of-self g c =
    let r = c.self.inside.rest in
    let s = step g.F.Family.shape g.met.F.Family.laws r.first r.left c.first_peak-height.result c.self.invariant.0
    c.self.invariant.1 c.first_peak-height.ensures.first in (
      omega (arith, s.within, c.self.invariant.0, c.next-self-inside.ensures.first, c.next-self-inside.ensures.left),
      rw (c.next-self-inside.ensures.first, c.next-self-inside.ensures.left) s.rest,
    )

pub returns-clause-steps : goal.returns-clause-steps
returns-clause-steps g c =
    let r = c.self.inside.rest in
    let n = c.next-self-inside.result in
    let s = step g.F.Family.shape g.met.F.Family.laws r.first r.left c.first_peak-height.result c.self.invariant.0
    c.self.invariant.1 c.first_peak-height.ensures.first in (
      sym c.self.view_is ∙ leads g.F.Family.shape c.self.inside.start r.first r.left c.first_peak-height.result
          c.first_peak-height.ensures.first r.folded n.first n.left n.folded c.next-self-inside.ensures.first c.next-self-inside.ensures.left
          c.next-self-inside.ensures.folded (omega arith) (omega (arith, c.if-rest-power.false, c.power.ensures)),
      record { aligned = s.aligned; small = s.small; fits = omega (arith, s.within, c.self.invariant.0) },
    )

pub returns-clause-goes : goal.returns-clause-goes
returns-clause-goes g c = record {
  on = λ f. (tt, tt, omega (arith, ap length (returns-clause-steps g c).0));
  keeps = tt;
  rests = λ f. tt;
}
