use Rattle.std.proofs.Common.{◌<◌, ◌^◌, ◌∷◌, ap, arith, refl, sym, ◌∙◌, pow_pos}
use Rattle.storage_merkle.specs.Laws.Shape.{step}
use Rattle.storage_merkle.specs.Rests.{peaks_from}
use Rattle.storage_merkle.specs.Walked.{past}
use Rattle.storage_merkle.proofs.Walked.{aligned_none, walk_ends, walk_past, walk_meets, walk_passes}
use Rattle.storage_merkle.proofs.merkle.walk.next_top.Goals as goal

pub loop-rest-init : goal.loop-rest-init
loop-rest-init g c = record { few = c.requires.few; aligned = c.requires.aligned; same = refl }

pub is_apart-requires-clause-within : goal.is_apart-requires-clause-within
is_apart-requires-clause-within g c =
    let within = c.first_peak-height.ensures.within in omega (arith, c.loop-rest.invariant.few)

pub returns-then-is_apart : goal.returns-then-is_apart
returns-then-is_apart g c =
    let S = g.F.Family.shape in
    let r = c.loop-rest.rest in
    let n = c.next.result in
    let k = c.first_peak-height.result in
    let s = step S g.met.F.Family.laws r.first r.left k c.loop-rest.invariant.few c.loop-rest.invariant.aligned
    c.first_peak-height.ensures.first in
    record {
      few = omega (arith, s.within, c.loop-rest.invariant.few, c.next.ensures.first, c.next.ensures.left);
      aligned = rw (c.next.ensures.first, c.next.ensures.left) s.rest;
      steps = (
        sym c.loop-rest.invariant.same ∙ walk_meets c.args.start c.args.end S r.first r.left r.folded k n.first n.left
            n.folded c.first_peak-height.ensures.first c.next.ensures.first c.next.ensures.left c.next.ensures.folded
            c.if-first-end.either c.if-is_apart.ensures,
        record { aligned = s.aligned; small = s.small; fits = omega (arith, s.within, c.loop-rest.invariant.few) },
      );
    }

pub loop-rest-preserved : goal.loop-rest-preserved
loop-rest-preserved g c =
    let S = g.F.Family.shape in
    let r = c.loop-rest.rest in
    let n = c.next.result in
    let k = c.first_peak-height.result in
    let s = step S g.met.F.Family.laws r.first r.left k c.loop-rest.invariant.few c.loop-rest.invariant.aligned
    c.first_peak-height.ensures.first in
    record {
      few = omega (arith, s.within, c.loop-rest.invariant.few, c.next.ensures.first, c.next.ensures.left);
      aligned = rw (c.next.ensures.first, c.next.ensures.left) s.rest;
      same = sym (walk_passes c.args.start c.args.end S r.first r.left r.folded k n.first n.left n.folded
          c.first_peak-height.ensures.first c.next.ensures.first c.next.ensures.left c.next.ensures.folded
          c.if-first-end.either c.if-is_apart.ensures) ∙ c.loop-rest.invariant.same;
    }

pub loop-rest-smaller : goal.loop-rest-smaller
loop-rest-smaller g c =
    let some : 0 < 2 ^ c.first_peak-height.result = pow_pos c.first_peak-height.result in
    let within = c.first_peak-height.ensures.within in
    omega (arith, c.next.ensures.left)

pub returns-else-first-end : goal.returns-else-first-end
returns-else-first-end g c =
    let S = g.F.Family.shape in
    let L = g.met.F.Family.laws in
    let r = c.loop-rest.rest in
    record {
      few = omega (arith, c.loop-rest.invariant.few);
      aligned = aligned_none S L r.first;
      steps = (
        sym c.loop-rest.invariant.same ∙ walk_past c.args.start c.args.end S r.first r.left r.folded L
            (omega (arith, c.loop-rest-test.true)) c.if-first-end.false.0 c.if-first-end.false.1
            ∙ ap (λ ms. past (peaks_from S r.first r.left) ∷ ms)
            (sym (walk_ends c.args.start c.args.end S r.first 0 r.folded L (omega arith))),
        record { aligned = c.loop-rest.invariant.aligned; fits = c.loop-rest.invariant.few },
      );
    }

pub returns : goal.returns
returns g c =
    let r = c.loop-rest.rest in
    let none = walk_ends c.args.start c.args.end g.F.Family.shape r.first r.left r.folded g.met.F.Family.laws
    c.loop-rest-test.false in
    record {
      few = c.loop-rest.invariant.few;
      aligned = c.loop-rest.invariant.aligned;
      steps = (sym c.loop-rest.invariant.same ∙ none, none);
    }
