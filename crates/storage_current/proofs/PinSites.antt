-- Given nodes of a calculation that agrees with another one; and the pins among them.
use Rattle.std.proofs.Common.{◌≡◌, ◌≢◌, ℕ, zero, suc, ◌+◌, ◌-◌, ◌*◌, ◌/◌, ◌%◌, ◌^◌, ◌<◌, ◌≤◌, List, [], ◌∷◌, length, map, Bool, true, false, if◌then◌else◌, eqb, eq-eqb, ne_eqb, Option, Some, None, inl, inr, refl, sym, ap, ap₂, subst, ◌∙◌, arith, pow_pos}
use Rattle.std.specs.Option.{is_some}
use Rattle.std.proofs.lemmas.Bool.{cases_lt}
use Rattle.storage_merkle.specs.Calc.{node, Calc, given, leaf, be8, Values, Agree}
use Rattle.storage_merkle.specs.Kept.{at_peaks, paired, pins}
use Rattle.storage_merkle.specs.Nodes.{placed}
use Rattle.storage_merkle.specs.Peaks.{HasPeak}
use Rattle.storage_merkle.specs.Shape.{Shape, Laws, size, Inside, AreAligned}
use Rattle.storage_merkle.specs.Trees.{Layout, Peak, node_calc, join_calc, places}
use Rattle.storage_merkle.specs.Laws.Multiples.{pow_two, pow_order, next, multiple_add, multiple_down, power_multiple}
use Rattle.storage_merkle.specs.Laws.Peaks.{inside_of_peak, peak_aligned}
use Rattle.storage_merkle.specs.Laws.Shape.{inside_between}
use Rattle.storage_merkle.proofs.Agreeing.{AllPeaks, agree_join}
use Rattle.storage_current.specs.GraftedTrees.{IsPeak, tree_at}
use Rattle.storage_current.proofs.Pinned.{leaf_is, peak_inside, pin_some, tree_at_low}
use Rattle.storage_current.proofs.Rebuilt.{none_or}

module _ (v w : Values) (T : Layout) (cut : ℕ → ℕ → Bool) where
  at_given : (k a : ℕ) → cut a k ≡ true → Agree v w (node_calc T cut k a) → v.digest (node a k) ≡ w.digest (node a k)
  at_given zero a e f =
      subst (λ c. Agree v w (if c then given (node a zero) else leaf (be8 (T.shape.position a zero)) a)) e f
  at_given (suc k) a e f = subst (λ c. Agree v w (if c then given (node a (suc k))
      else join_calc T a (suc k) (node_calc T cut k a) (node_calc T cut k (a + 2 ^ k)))) e f

  halves_agree : (k a : ℕ) → cut a (suc k) ≡ false → Agree v w (node_calc T cut (suc k) a)
      → Agree v w (node_calc T cut k a) × Agree v w (node_calc T cut k (a + 2 ^ k))
  halves_agree k a e f = agree_join v w T a (suc k) (node_calc T cut k a) (node_calc T cut k (a + 2 ^ k))
      (subst (λ c. Agree v w (if c then given (node a (suc k))
      else join_calc T a (suc k) (node_calc T cut k a) (node_calc T cut k (a + 2 ^ k)))) e f)

  -- of the nodes over the 2 ^ j leaves from b on this one alone is given: where one of them agrees, it does
  module _ (b j : ℕ) (aligned : b % 2 ^ j ≡ 0) (own : cut b j ≡ true)
      (opens : (c m : ℕ) → c % 2 ^ m ≡ 0 → c ≤ b → b + 2 ^ j ≤ c + 2 ^ m → j < m → cut c m ≡ false) where
    here : (k a : ℕ) → k ≡ j → a ≡ b → Agree v w (node_calc T cut k a) → v.digest (node b j) ≡ w.digest (node b j)
    here k a kj ab f = at_given j b own (subst (λ x. Agree v w (node_calc T cut x b)) kj
        (subst (λ x. Agree v w (node_calc T cut k x)) ab f))

    pub descend : (k a : ℕ) → a % 2 ^ k ≡ 0 → a ≤ b → b + 2 ^ j ≤ a + 2 ^ k → Agree v w (node_calc T cut k a)
        → v.digest (node b j) ≡ w.digest (node b j)
    descend zero a al lo hi f =
        let small : 2 ^ j ≤ 2 ^ zero = omega (arith, lo, hi) in
        let least : j ≤ zero = pow_order j zero small in
        here zero a (omega (arith, least)) (omega (arith, lo, hi, pow_pos j)) f
    descend (suc k) a al lo hi f =
        elim (cases_lt j (suc k)) [
          | inr same ↦
              let small : 2 ^ j ≤ 2 ^ suc k = omega (arith, lo, hi) in
              let least : j ≤ suc k = pow_order j (suc k) small in
              let e : suc k ≡ j = omega (arith, least, same) in
              let size : 2 ^ suc k ≡ 2 ^ j = ap (λ n. 2 ^ n) e in
              here (suc k) a e (omega (arith, lo, hi, size)) f
          | inl less ↦
              let two = pow_two k in
              let left : a % 2 ^ k ≡ 0 = multiple_down a k (suc k) (omega arith) al in
              let right : (a + 2 ^ k) % 2 ^ k ≡ 0 =
              multiple_add a (2 ^ k) (2 ^ k) (pow_pos k) left (power_multiple k k (omega arith)) in
              let middle : (a + 2 ^ k) % 2 ^ j ≡ 0 = multiple_down (a + 2 ^ k) j k (omega (arith, less)) right in
              let both = halves_agree k a (opens a (suc k) al lo hi less) f in
              elim (cases_lt b (a + 2 ^ k)) [
                | inl before ↦ descend k a left lo (next b (a + 2 ^ k) (2 ^ j) aligned middle before) both.0
                | inr after ↦ descend k (a + 2 ^ k) right after (omega (arith, hi, two)) both.1
              ]
        ]

-- ---- peaks

pub has_of : (hs : List ℕ) (s a k : ℕ) → IsPeak hs s a k → HasPeak hs s a k
unfolding HasPeak
has_of [] s a k i = absurd i
has_of (x ∷ hs) s a k (inl i) = inl (sym i.0, sym i.1)
has_of (x ∷ hs) s a k (inr i) = inr (has_of hs (s + 2 ^ x) a k i)

pub all_peaks : (ks hs : List ℕ) (s : ℕ) → ((a k : ℕ) → HasPeak hs s a k → HasPeak ks 0 a k)
    → AllPeaks (λ p. HasPeak ks 0 p.first p.height) (places s hs)
unfolding HasPeak
all_peaks ks [] s f = tt
all_peaks ks (x ∷ hs) s f = (f s x (inl (refl, refl)), all_peaks ks hs (s + 2 ^ x) (λ a k i. f a k (inr i)))

-- ---- what a tree over chunks has of its pins

module _ (S : Shape) (L : Laws S) {D : Type 0} (c : ℕ) (ps ls : List D) (count : length ps ≡ length (S.peaks c)) where
  -- a pin stands before the others
  pin_before : (a k : ℕ) → a % 2 ^ k ≡ 0 → IsPeak (S.peaks c) 0 a k → S.position a k < size S c
  pin_before a k al i =
      (L.born c a k al).1 ((L.inside c a k al).0 (peak_inside (S.peaks c) 0 a k i))

  -- it is there
  pub pin_there : (a k : ℕ) → a % 2 ^ k ≡ 0 → IsPeak (S.peaks c) 0 a k
      → is_some (tree_at S c ps ls (S.position a k)) ≡ true
  pin_there a k al i = ap is_some (tree_at_low S c ps ls (S.position a k) (pin_before a k al i))
      ∙ pin_some S (S.peaks c) 0 a k i ps count

  -- and nothing of a node over it
  pub none_over : (a k b j : ℕ) → a % 2 ^ k ≡ 0 → IsPeak (S.peaks c) 0 b j → a ≤ b → b + 2 ^ j ≤ a + 2 ^ k → j < k
      → tree_at S c ps ls (S.position a k) ≡ None
  none_over a k b j al i lo hi less = none_or _ (λ some. gone (tree_at S c ps ls (S.position a k)) refl some)
    where
      gone : (o : Option D) → tree_at S c ps ls (S.position a k) ≡ o → is_some o ≡ true → ⊥
      gone None e some = absurd (cc)
      gone (Some d) e some = elim (cases_lt (S.position a k) (size S c)) [
        | inl low ↦
            let within = (L.inside c a k al).1 ((L.born c a k al).0 low) in
            let pos = pow_pos j in
            let r = inside_of_peak (S.peaks c) 0 a k b j b within (has_of (S.peaks c) 0 b j i) lo
            (omega (arith, hi, pos)) (omega arith) (omega (arith, pos)) in
            let small : 2 ^ k ≤ 2 ^ j = omega (arith, r.0, r.1, lo) in
            let least : k ≤ j = pow_order k j small in
            absurd (omega (arith, least, less))
        | inr high ↦ let leaf = leaf_is S L c ps ls a k d al high e in absurd (omega (arith, leaf.level, less))
      ]

-- pins that are some digests, each where it is found, are these
pub pins_are : (S : Shape) → Laws S → (digest_of : ℕ → ℕ → List ℕ) (hs : List ℕ) (s : ℕ) (ds : List (List ℕ)) → AreAligned hs s
    → length ds ≡ length hs → ((a k : ℕ) (x : List ℕ) → IsPeak hs s a k
    → paired (S.position a k) (map (λ p. p.0) (placed S s hs)) ds ≡ Some x → x ≡ digest_of k a) → ds ≡ at_peaks digest_of s hs
unfolding AreAligned
pins_are S L digest_of [] s [] al e are = refl
pins_are S L digest_of [] s (d ∷ ds) al e are = absurd (omega (arith, e))
pins_are S L digest_of (k ∷ hs) s [] al e are = absurd (omega (arith, e))
pins_are S L digest_of (k ∷ hs) s (d ∷ ds) al e are =
    let rest : List ℕ = map (λ p. p.0) (placed S (s + 2 ^ k) hs) in
    let first : d ≡ digest_of k s = are s k d (inl (refl, refl))
    (ap (λ b. if b then Some d else paired (S.position s k) rest ds) (eq-eqb (S.position s k) (S.position s k) refl)) in
    let from = λ (a j : ℕ) (i : IsPeak hs (s + 2 ^ k) a j). inside_between hs (s + 2 ^ k) a j (peak_inside hs (s + 2 ^ k) a j i) in
    ap₂ (λ x xs. x ∷ xs) first (pins_are S L digest_of hs (s + 2 ^ k) ds al.1 (omega (arith, e)) (λ a j x i is.
    let aj : a % 2 ^ j ≡ 0 = peak_aligned hs (s + 2 ^ k) a j al.1 (has_of hs (s + 2 ^ k) a j i) in
    let other : S.position s k ≢ S.position a j = λ q.
    absurd (omega (arith, (L.injective s k a j al.0 aj q).0, (from a j i).0, pow_pos k)) in
    are a j x (inr i) (ap (λ b. if b then Some d else paired (S.position a j) rest ds)
    (ne_eqb (S.position s k) (S.position a j) other) ∙ is)))
