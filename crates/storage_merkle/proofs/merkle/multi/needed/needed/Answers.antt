use Rattle.std.proofs.Common.{ℕ, ◌+◌, ◌++◌, map, ap, ap₂, ◌∙◌, refl, sym, subst, arith}
use Rattle.std.proofs.lemmas.List.Sorted.{IsNonDecreasingBy-from_sort}
use Rattle.storage_merkle.specs.Multi.{Ascend}
use Rattle.storage_merkle.specs.Trees.{ungrafted}
use Rattle.storage_merkle.proofs.Multi.Needed.{adds_peak, in_peaks, needed_sorted}
use Rattle.storage_merkle.proofs.Peaks.{none_left, peeled}
use Rattle.storage_merkle.proofs.merkle.multi.needed.needed.Goals as goal

pub loop-first-init : goal.loop-first-init
loop-first-init g c =
    let S = g.F.Family.shape in
    let at = c.into_iter-first-iterator.ensures.into_iter_gives ∙ c.over-first-items.ensures in
    record {
      walk = record {
        first = 0;
        heights = S.peaks c.args.leaves;
        are = at;
        ends = omega (arith, g.met.F.Family.laws.sum c.args.leaves);
      };
      rising = c.requires.rising;
      sites = ap₂ (λ xs ps. xs ++ in_peaks (ungrafted S) g.L.Located.place c.args.items.now ps)
          c.new-positions.ensures.items at;
    }

pub add_under-requires-clause-rising : goal.add_under-requires-clause-rising
add_under-requires-clause-rising g c =
    let u = peeled _ _ _ _ c.in-Some.ensures.steps.0 c.loop-first.invariant.walk in
    let rising = subst (λ a. Ascend a c.args.leaves (map g.L.Located.place c.loop-first.rest.now)) u.at
    c.loop-first.invariant.rising in
    let parts = c.split.ensures.parts _ _ rising (omega (arith, u.within, c.power.ensures)) in
    rw c.power.ensures at parts.0

pub loop-first-preserved : goal.loop-first-preserved
loop-first-preserved g c =
    let place = g.L.Located.place in
    let steps = c.in-Some.ensures.steps in
    let u = peeled _ _ _ _ steps.0 c.loop-first.invariant.walk in
    let rising = subst (λ a. Ascend a c.args.leaves (map place c.loop-first.rest.now)) u.at
    c.loop-first.invariant.rising in
    let parts = c.split.ensures.parts _ _ rising (omega (arith, u.within, c.power.ensures)) in
    record {
      walk = u.rest;
      rising = subst (λ a. Ascend a c.args.leaves (map place c.split.result.1.now))
          (ap (λ m. c.in-Some.first + m) c.power.ensures ∙ sym u.next) parts.1;
      sites = adds_peak (ungrafted g.F.Family.shape) place c.loop-first.rest.now c.split.result.0.now
          c.split.result.1.now _ _ _ c.args.leaves c.power.result u.rest _ _ _ steps.0 c.split.ensures.whole
          c.power.ensures u.next parts c.in_ok-add_under.ensures c.loop-first.invariant.sites;
    }

pub returns : goal.returns
returns g c =
    let T = ungrafted g.F.Family.shape in
    let place = g.L.Located.place in
    let found = none_left (in_peaks T place c.loop-first.rest.now) _ _ _ refl c.in-None.ensures.steps.0
    c.loop-first.invariant.sites in
    needed_sorted T (map place c.args.items.now) c.args.leaves _ _ found c.sort_unstable.ensures.permutation
    (IsNonDecreasingBy-from_sort (λ (x : ℕ). x) c.sort_unstable.new.self.items c.sort_unstable.ensures.sorted)
