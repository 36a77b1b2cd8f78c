use Rattle.std.proofs.Common.{◌≡◌, ◌⊎◌, ℕ, true, false, inl, inr, refl, sym, ◌∙◌}
use Rattle.std.proofs.lemmas.List.Sorted.{IsNonDecreasingBy-from_sort}
use Rattle.storage_merkle.specs.RangeProofs.{apart}
use Rattle.storage_merkle.specs.Trees.{ungrafted}
use Rattle.storage_merkle.proofs.Peaks.{none_left}
use Rattle.storage_merkle.proofs.Siblings.{entered_positions, entered_grows, entered_sorted}
use Rattle.storage_merkle.proofs.merkle.plan.positions_apart.Goals as goal
use Rattle.storage_merkle.proofs.merkle.plan.positions_apart.Goals.{then-whole_peaks-via-then-whole_peaks, then-whole_peaks-via-else-whole_peaks+then-not-is_apart}

pub returns : goal.returns
returns g c =
    let T = ungrafted g.F.Family.shape in
    let found = none_left (entered_positions T c.args.whole_peaks c.args.start c.args.end) _ _ _ refl
    c.in-None.ensures.steps.0 c.loop-first.invariant in
    entered_sorted T c.args.whole_peaks c.args.leaves c.args.start c.args.end _ _ found
    c.sort_unstable.ensures.permutation
    (IsNonDecreasingBy-from_sort (λ (x : ℕ). x) c.sort_unstable.new.self.items c.sort_unstable.ensures.sorted)

pub loop-first-preserved-in-loop-first : goal.loop-first-preserved-in-loop-first
loop-first-preserved-in-loop-first g c =
    let enters : (c.args.whole_peaks ≡ true)
    ⊎ (apart c.args.start c.args.end c.in-Some.first c.in-Some.height ≡ false) = elim c.then-whole_peaks.branch [
      | then-whole_peaks-via-then-whole_peaks w ↦ inl w.if-whole_peaks.true
      | then-whole_peaks-via-else-whole_peaks+then-not-is_apart w ↦
          inr (sym w.is_apart.ensures ∙ w.if-not-is_apart.true)
    ] in
    entered_grows (ungrafted g.F.Family.shape) c.args.whole_peaks c.args.start c.args.end
    (record { first = c.in-Some.first; height = c.in-Some.height }) _ _ _ _ _ enters c.in-Some.ensures.steps.0
    (c.in_ok-add_apart.ensures) c.loop-first.invariant
