-- Walking along the peaks of a tree, and down from a node to its halves.
use Rattle.std.proofs.Common.{◌≡◌, ◌≢◌, ℕ, zero, suc, ◌+◌, ◌-◌, ◌*◌, ◌%◌, ◌^◌, ◌<◌, ◌≤◌, List, [], ◌∷◌, length, inl, inr, arith, refl, sym, subst, pow_pos}
use Rattle.storage_merkle.specs.Shape.{Shape, Laws, size, Inside, AreAligned}
use Rattle.storage_merkle.specs.Laws.Multiples.{pow_two, multiple_down, multiple_add, power_multiple}
use Rattle.storage_merkle.specs.Laws.Shape.{step, early_fits, length_at_most}
use Rattle.storage_merkle.specs.Peaks.{Step}
use Rattle.storage_merkle.specs.Plans.{InTree, ArePeaks}
use Rattle.storage_merkle.specs.Rests.{EachPeak, peaks_from}
use Rattle.storage_merkle.specs.Trees.{places}

-- a node's halves
pub record Halves (a k : ℕ) : Type 0 where
  pub left : a % 2 ^ (k - 1) ≡ 0
  pub right : (a + 2 ^ (k - 1)) % 2 ^ (k - 1) ≡ 0
  pub length : 2 ^ (k - 1) + 2 ^ (k - 1) ≡ 2 ^ k

pub halves : (a k : ℕ) → a % 2 ^ k ≡ 0 → k ≢ 0 → Halves a k
halves a zero h ne = absurd (ne refl)
halves a (suc k) h ne =
    let e : suc k - 1 ≡ k = omega arith in
    let l : a % 2 ^ k ≡ 0 = multiple_down a k (suc k) (omega arith) h in
    record {
      left = rw e l;
      right = rw e (multiple_add a (2 ^ k) (2 ^ k) (pow_pos k) l (power_multiple k k (omega arith)));
      length = rw e (sym (pow_two k));
    }

module _ (S : Shape) (L : Laws S) where
  pub fits_within : (a k : ℕ) → a % 2 ^ k ≡ 0 → a + 2 ^ k ≤ 2 ^ 62 → S.position a k < 2 ^ 64
  fits_within a k h w = early_fits S L a k h (omega arith)

  -- the leaves of a node of the tree are leaves of the tree
  pub in_tree_leaves : (n a k : ℕ) → InTree S n a k → a + 2 ^ k ≤ n
  in_tree_leaves n a k t = omega (arith, (L.born n a k t.aligned).0 t.inside, L.late a k)

  pub in_tree_left : (n a k : ℕ) → InTree S n a k → k ≢ 0 → InTree S n a (k - 1)
  in_tree_left n a zero t ne = absurd (ne refl)
  in_tree_left n a (suc k) t ne =
      let e : suc k - 1 ≡ k = omega arith in
      let h = halves a (suc k) t.aligned ne in
      let c = L.children a k t.aligned in
      record { aligned = h.left; inside = rw e (omega (arith, c.0, t.inside)) }

  pub in_tree_right : (n a k : ℕ) → InTree S n a k → k ≢ 0 → InTree S n (a + 2 ^ (k - 1)) (k - 1)
  in_tree_right n a zero t ne = absurd (ne refl)
  in_tree_right n a (suc k) t ne =
      let e : suc k - 1 ≡ k = omega arith in
      let h = halves a (suc k) t.aligned ne in
      let c = L.children a k t.aligned in
      record { aligned = h.right; inside = rw e (omega (arith, c.1, t.inside)) }

  pub all_peaks : (n : ℕ) → ArePeaks S n 0 n
  all_peaks n = record { sum = omega arith; aligned = L.aligned n; inside = λ a k i. i }

  pub peaks_step : (n s r h : ℕ) → n ≤ 2 ^ 62 → ArePeaks S n s r → S.peaks r ≡ h ∷ S.peaks (r - 2 ^ h) → Step S s r h
  peaks_step n s r h few p e = step S L s r h (omega (arith, p.sum)) p.aligned e

  pub peaks_next : (n s r h : ℕ) → n ≤ 2 ^ 62 → ArePeaks S n s r → S.peaks r ≡ h ∷ S.peaks (r - 2 ^ h)
      → ArePeaks S n (s + 2 ^ h) (r - 2 ^ h)
  unfolding Inside
  peaks_next n s r h few p e =
      let t = peaks_step n s r h few p e in
      record {
        sum = omega (arith, p.sum, t.within);
        aligned = t.rest;
        inside = λ a k i. p.inside a k (subst (λ hs. Inside hs s a k) (sym e) (inr i));
      }

  pub peak_in_tree : (n s r h : ℕ) → n ≤ 2 ^ 62 → ArePeaks S n s r → S.peaks r ≡ h ∷ S.peaks (r - 2 ^ h)
      → InTree S n s h
  unfolding Inside
  peak_in_tree n s r h few p e =
      let t = peaks_step n s r h few p e in
      let i = p.inside s h (subst (λ hs. Inside hs s s h) (sym e) (inl (omega arith, omega arith))) in
      record { aligned = t.aligned; inside = (L.born n s h t.aligned).1 ((L.inside n s h t.aligned).0 i) }

  all_in_tree : (n a : ℕ) (ks : List ℕ) → AreAligned ks a
      → ((b k : ℕ) → Inside ks a b k → Inside (S.peaks n) 0 b k) → EachPeak (InTree S n) (places a ks)
  unfolding AreAligned Inside
  all_in_tree n a [] al i = tt
  all_in_tree n a (k ∷ ks) al i = (
    record {
      aligned = al.0;
      inside = (L.born n a k al.0).1 ((L.inside n a k al.0).0 (i a k (inl (omega arith, omega arith))));
    },
    all_in_tree n (a + 2 ^ k) ks al.1 (λ b j x. i b j (inr x)),
  )

  pub peaks_in_tree : (n s r : ℕ) → ArePeaks S n s r → EachPeak (InTree S n) (peaks_from S s r)
  peaks_in_tree n s r p = all_in_tree n s (S.peaks r) p.aligned p.inside

  pub peak_count : (n m : ℕ) → m ≡ size S n → 2 * n - m ≡ length (S.peaks n)
  peak_count n m e = omega (arith, length_at_most (S.peaks n), L.sum n)
