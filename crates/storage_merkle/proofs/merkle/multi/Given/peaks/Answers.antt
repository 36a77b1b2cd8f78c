use Rattle.std.proofs.Common.{◌+◌, ◌++◌, ◌∷◌, [], length, length-append, map, ap, ap₂, ◌∙◌, refl, sym, subst, arith}
use Rattle.storage_merkle.specs.Laws.Peaks.{length_places}
use Rattle.storage_merkle.specs.Multi.{Ascend}
use Rattle.storage_merkle.specs.Plans.{InTree}
use Rattle.storage_merkle.specs.Rests.{EachPeak}
use Rattle.storage_merkle.proofs.Multi.Nodes.{ThereIn, at_of, given_peak, peak_rises, peaks_more, values_in}
use Rattle.storage_merkle.proofs.Peaks.{none_left, peeled}
use Rattle.storage_merkle.proofs.Walks.{all_peaks, peaks_in_tree}
use Rattle.storage_merkle.proofs.merkle.multi.Given.peaks.Goals as goal

pub loop-first-init : goal.loop-first-init
loop-first-init g c =
    let S = g.F.Family.shape in
    let L = g.met.F.Family.laws in
    let items = g.E.AsSlice.items in
    let n = c.args.self.now.leaves in
    let at = c.into_iter-first-iterator.ensures.into_iter_gives ∙ c.over-first-items.ensures in
    let none = c.new-peaks.ensures.items in
    record {
      walk = record { first = 0; heights = S.peaks n; are = at; ends = omega (arith, L.sum n) };
      each = subst (EachPeak (InTree S n)) (sym at) (peaks_in_tree S L n 0 n (all_peaks S L n));
      rising = c.requires.rising;
      present = subst (ThereIn items S c.args.self.now.positions.now c.args.claims.now) (sym at) c.requires.present;
      count = omega (arith, ap length none, ap length at, length_places 0 (S.peaks n));
      exact = λ digest serves. ap₂ (λ xs ps. map g.D.Digest.text xs ++ values_in items g.H.Hasher.hash_of
          (g.H.Hasher.layout c.args.hasher.now) digest (g.H.Hasher.chunk c.args.hasher.now) c.args.claims.now ps) none at;
    }

pub node-requires-clause-within : goal.node-requires-clause-within
node-requires-clause-within g c = (subst (EachPeak (InTree g.F.Family.shape c.args.self.now.leaves))
    c.in-Some.ensures.steps.0 c.loop-first.invariant.each).0

pub node-requires-clause-rising : goal.node-requires-clause-rising
node-requires-clause-rising g c =
    let items = g.E.AsSlice.items in
    let u = peeled _ _ _ _ c.in-Some.ensures.steps.0 c.loop-first.invariant.walk in
    let up = subst (λ a. Ascend a c.args.self.now.leaves (at_of items c.loop-first.rest.now)) u.at
    c.loop-first.invariant.rising in
    (peak_rises items c.loop-first.rest.now c.split.result.0.now c.split.result.1.now _ _ _ _
    (ap (λ n. c.in-Some.first + n) c.power.ensures) u.within c.split.ensures.whole c.split.ensures.parts up).0

pub node-requires-clause-present : goal.node-requires-clause-present
node-requires-clause-present g c =
    let items = g.E.AsSlice.items in
    let u = peeled _ _ _ _ c.in-Some.ensures.steps.0 c.loop-first.invariant.walk in
    let up = subst (λ a. Ascend a c.args.self.now.leaves (at_of items c.loop-first.rest.now)) u.at
    c.loop-first.invariant.rising in
    (given_peak items g.F.Family.shape c.args.self.now.positions.now c.loop-first.rest.now c.split.result.0.now
    c.split.result.1.now _ _ _ _ _ u.rest c.in-Some.ensures.steps.0 u.next
    (ap (λ n. c.in-Some.first + n) c.power.ensures) u.within c.split.ensures.whole c.split.ensures.parts up
    c.loop-first.invariant.present).0

pub loop-first-preserved : goal.loop-first-preserved
loop-first-preserved g c =
    let S = g.F.Family.shape in
    let items = g.E.AsSlice.items in
    let n = c.args.self.now.leaves in
    let first = c.in-Some.ensures.steps.0 in
    let u = peeled _ _ _ _ first c.loop-first.invariant.walk in
    let em = ap (λ n. c.in-Some.first + n) c.power.ensures in
    let up = subst (λ a. Ascend a n (at_of items c.loop-first.rest.now)) u.at c.loop-first.invariant.rising in
    let rises = peak_rises items c.loop-first.rest.now c.split.result.0.now c.split.result.1.now _ _ _ _ em u.within
    c.split.ensures.whole c.split.ensures.parts up in
    let pushed = c.in_ok-push.ensures.items in
    let more = ap length first in
    record {
      walk = u.rest;
      each = (subst (EachPeak (InTree S n)) first c.loop-first.invariant.each).1;
      rising = subst (λ a. Ascend a n (at_of items c.split.result.1.now)) (sym u.next) rises.1;
      present = (given_peak items S c.args.self.now.positions.now c.loop-first.rest.now c.split.result.0.now
          c.split.result.1.now _ _ _ _ _ u.rest first u.next em u.within c.split.ensures.whole c.split.ensures.parts up
          c.loop-first.invariant.present).1;
      count = omega (
        arith,
        c.loop-first.invariant.count,
        more,
        ap length pushed,
        length-append c.loop-first.peaks.items (c.node.result ∷ []),
      );
      exact = λ digest serves.
          peaks_more items g.H.Hasher.hash_of (g.H.Hasher.layout c.args.hasher.now) digest
          (g.H.Hasher.chunk c.args.hasher.now) g.D.Digest.text c.loop-first.rest.now c.split.result.0.now
          c.split.result.1.now _ _ _ _ _ u.rest c.node.result _ _ _ first u.next em u.within c.split.ensures.whole
          c.split.ensures.parts up pushed (c.node.ensures digest serves) (c.loop-first.invariant.exact digest serves);
    }

pub returns-clause-all : goal.returns-clause-all
returns-clause-all g c = omega (arith, c.loop-first.invariant.count, ap length c.in-None.ensures.steps.0)

pub returns-clause-exact : goal.returns-clause-exact
returns-clause-exact g c = λ digest serves.
    none_left (values_in g.E.AsSlice.items g.H.Hasher.hash_of (g.H.Hasher.layout c.args.hasher.now) digest
    (g.H.Hasher.chunk c.args.hasher.now) c.loop-first.rest.now) _ _ _ refl c.in-None.ensures.steps.0
    (c.loop-first.invariant.exact digest serves)
