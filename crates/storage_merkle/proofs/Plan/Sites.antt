-- The positions that are planned for a range.
use Rattle.std.proofs.Common.{◌≡◌, ◌≢◌, ℕ, zero, suc, ◌+◌, ◌%◌, ◌<◌, ◌≤◌, ◌^◌, List, [], ◌∷◌, ◌++◌, length, get_or, Bool, true, false, if◌then◌else◌, refl, sym, ap, ap₂, ◌∙◌, arith, subst, eqb, eqb-true, eq-eqb, pow_pos}
use Rattle.std.specs.List.Sorted.{IsPermutation, IsStrictlyIncreasing}
use Rattle.std.proofs.lemmas.List.Sorted.{IsPermutation-map}
use Rattle.storage_merkle.specs.Shape.{Shape, Laws, AreAligned}
use Rattle.storage_merkle.specs.Laws.Multiples.{multiple_down, multiple_add, power_multiple}
use Rattle.storage_merkle.specs.Calc.{Site, front, back, node, given, leaf, be8}
use Rattle.storage_merkle.specs.Trees.{Layout, ungrafted, places, peaks_of, node_calc, join_calc}
use Rattle.storage_merkle.specs.RangeProofs.{apart, sites_of, sites_in, position_of, by_position, same_site}
use Rattle.storage_merkle.specs.Plans.{planned}
use Rattle.storage_merkle.proofs.Distinct.{times, one_if, same_itself, each_given_once}
use Rattle.storage_merkle.proofs.SiblingOrder.{sorted}
use Rattle.storage_merkle.proofs.AscendingNumbers.{Rising, count, count-permutation}
use Rattle.storage_merkle.proofs.Siblings.{positions, sites-join, sort_rises}

-- ---- each position once

abbrev pub AllSites : (Site → Type 0) → List Site → Type 0
AllSites Q [] = Unit {0}
AllSites Q (s ∷ ss) = Q s × AllSites Q ss

pub all_both : (Q : Site → Type 0) (ss ts : List Site) → AllSites Q ss → AllSites Q ts → AllSites Q (ss ++ ts)
all_both Q [] ts a b = b
all_both Q (s ∷ ss) ts a b = (a.0, all_both Q ss ts a.1 b)

-- a site is a node whose first leaf is a multiple of its length
abbrev pub IsAlignedNode : Site → Type 0
IsAlignedNode front = ⊥
IsAlignedNode back = ⊥
IsAlignedNode (node a k) = a % 2 ^ k ≡ 0

module _ (T : Layout) (cut : ℕ → ℕ → Bool) where
  pub aligned_under : (k a : ℕ) → a % 2 ^ k ≡ 0 → AllSites IsAlignedNode (sites_of (node_calc T cut k a))
  aligned_under zero a h = elim (cut a zero) as (λ c. AllSites IsAlignedNode (sites_of
      (if c then given (node a zero) else leaf (be8 (T.shape.position a zero)) a))) [ true ↦ (h, tt) | false ↦ tt ]
  aligned_under (suc k) a h =
      let left : a % 2 ^ k ≡ 0 = multiple_down a k (suc k) (omega arith) h in
      let right : (a + 2 ^ k) % 2 ^ k ≡ 0 =
      multiple_add a (2 ^ k) (2 ^ k) (pow_pos k) left (power_multiple k k (omega arith)) in
      elim (cut a (suc k)) as (λ c. AllSites IsAlignedNode (sites_of (if c then given (node a (suc k))
      else join_calc T a (suc k) (node_calc T cut k a) (node_calc T cut k (a + 2 ^ k))))) [
        | true ↦ (h, tt)
        | false ↦ rw (sites-join T a (suc k) (node_calc T cut k a) (node_calc T cut k (a + 2 ^ k)))
            (all_both IsAlignedNode _ _ (aligned_under k a left) (aligned_under k (a + 2 ^ k) right))
      ]

  pub aligned_in : (s : ℕ) (ks : List ℕ) → AreAligned ks s → AllSites IsAlignedNode (sites_in T cut (places s ks))
  unfolding AreAligned
  aligned_in s [] al = tt
  aligned_in s (k ∷ ks) al = all_both IsAlignedNode _ _ (aligned_under k s al.0) (aligned_in (s + 2 ^ k) ks al.1)

module _ (T : Layout) (L : Laws T.shape) where
  pub one_place : (s t : Site) → IsAlignedNode s → IsAlignedNode t → position_of T s ≡ position_of T t → s ≡ t
  one_place front t a b e = absurd a
  one_place back t a b e = absurd a
  one_place (node a k) front p q e = absurd q
  one_place (node a k) back p q e = absurd q
  one_place (node a k) (node b j) p q e = let i = L.injective a k b j p q e in ap₂ node i.0 i.1

  none_there : (s : Site) (ss : List Site) → IsAlignedNode s → AllSites IsAlignedNode ss → times s ss ≡ 0
      → count (position_of T s) (positions T ss) ≡ 0
  none_there s [] a b z = refl
  none_there s (t ∷ ts) a b z = go (eqb (position_of T t) (position_of T s)) refl (none_there s ts a b.1 (omega arith))
    where
      go : (c : Bool) → eqb (position_of T t) (position_of T s) ≡ c → count (position_of T s) (positions T ts) ≡ 0
          → one_if c + count (position_of T s) (positions T ts) ≡ 0
      go true e i =
          let same : t ≡ s = one_place t s b.0 a (eqb-true (position_of T t) (position_of T s) e) in
          let one : one_if (same_site t s) ≡ 1 = ap one_if (subst (λ u. same_site t u ≡ true) same (same_itself t)) in
          absurd (omega arith)
      go false e i = omega arith

  pub each_place_once : (ss : List Site) → AllSites IsAlignedNode ss → ((s : Site) → times s ss ≤ 1) → (m : ℕ)
      → count m (positions T ss) ≤ 1
  each_place_once [] a o m = omega arith
  each_place_once (s ∷ ss) a o m =
      go (eqb (position_of T s) m) refl (each_place_once ss a.1 (λ t. omega (arith, o t)) m)
    where
      go : (c : Bool) → eqb (position_of T s) m ≡ c → count m (positions T ss) ≤ 1
          → one_if c + count m (positions T ss) ≤ 1
      go false e i = omega arith
      go true e i =
          let itself : one_if (same_site s s) ≡ 1 = ap one_if (same_itself s) in
          let gone : times s ss ≡ 0 = omega (arith, o s) in
          let none : count m (positions T ss) ≡ 0 =
          ap (λ p. count p (positions T ss)) (sym (eqb-true (position_of T s) m e))
          ∙ none_there s ss a.0 a.1 gone in
          omega arith

pub strictly : (xs : List ℕ) → Rising xs → ((m : ℕ) → count m xs ≤ 1) → (k : ℕ) → k + 1 < length xs
    → get_or xs k 0 < get_or xs (k + 1) 0
strictly [] r o k l = absurd (omega arith)
strictly (x ∷ []) r o k l = absurd (omega arith)
strictly (x ∷ (y ∷ zs)) r o zero l = go (eqb y x) refl
  where
    go : (c : Bool) → eqb y x ≡ c → x < y
    go true e =
        let two : one_if (eqb x x) + (one_if (eqb y x) + count x zs) ≤ 1 = o x in
        absurd (omega (arith, ap one_if (eq-eqb x x refl), ap one_if e))
    go false e = let ne : x ≢ y = λ q. (let t : eqb y x ≡ true = eq-eqb y x (sym q) in cc) in omega (arith, r.0.0)
strictly (x ∷ (y ∷ zs)) r o (suc k) l =
    let e : suc k + 1 ≡ suc (k + 1) = omega arith in
    let rest = strictly (y ∷ zs) r.1 (λ m. omega (arith, o m)) k (omega arith) in
    rw e rest

-- the planned positions ascend, each once
pub planned_rises : (S : Shape) → Laws S → (n low high : ℕ) → IsStrictlyIncreasing (planned S n low high)
planned_rises S L n low high =
    let T = ungrafted S in
    let ss = sites_in T (apart low high) (peaks_of T n) in
    let moved : IsPermutation (positions T ss) (positions T (by_position T ss)) =
    IsPermutation-map (position_of T) ss (by_position T ss) (sorted T ss) in
    let once : (m : ℕ) → count m (positions T ss) ≤ 1 = each_place_once T L ss
    (aligned_in T (apart low high) 0 (S.peaks n) (L.aligned n)) (each_given_once T (apart low high) (S.peaks n)) in
    strictly (planned S n low high) (sort_rises T ss)
    (λ m. omega (arith, once m, count-permutation m (positions T ss) (positions T (by_position T ss)) moved))
