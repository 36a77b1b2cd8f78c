-- The siblings of a range, in the peaks that share a leaf with it.
use Rattle.std.proofs.Common.{◌≡◌, ◌≢◌, ℕ, zero, suc, ◌+◌, ◌-◌, ◌<◌, ◌≤◌, ◌^◌, List, [], ◌∷◌, ◌++◌, map, Bool, true, false, if◌then◌else◌, ◌||◌, ◌⊎◌, inl, inr, refl, sym, ap, ap₂, ◌∙◌, arith, subst, append-nil, Result, Ok, Err, OnOk, leb, le-leb, leb-true, leb-false, eqb, pow_pos, append_assoc}
use Rattle.std.specs.List.Sorted.{IsPermutation, IsNonDecreasing}
use Rattle.std.proofs.lemmas.Bool.{lt-leb, cases_lt}
use Rattle.std.proofs.lemmas.List.{map-append}
use Rattle.storage_merkle.specs.Laws.Multiples.{pow_two}
use Rattle.storage_merkle.specs.Calc.{Site, node, Calc, pair, graft, be8}
use Rattle.storage_merkle.specs.Trees.{Layout, Peak, places, peaks_of, node_calc, join_calc}
use Rattle.storage_merkle.specs.RangeProofs.{apart, not_leading, up_to, sites_of, sites_in, position_of, place_in, by_position}
use Rattle.storage_merkle.specs.Plans.{planned_sites}
use Rattle.storage_merkle.specs.Siblings.{sibling_sites}
use Rattle.storage_merkle.specs.Extracted.{overlapped}
use Rattle.storage_merkle.proofs.Distinct.{one_if}
use Rattle.storage_merkle.proofs.AscendingNumbers.{AtLeast, Rising, count, at_least_less, sorted_is}

module _ (low high : ℕ) where
  pub overlapped-past : (s : ℕ) (ks : List ℕ) → high ≤ s → overlapped low high (places s ks) ≡ []
  overlapped-past s [] h = refl
  overlapped-past s (k ∷ ks) h =
      let rest = overlapped-past (s + 2 ^ k) ks (omega arith) in
      elim (leb (s + 2 ^ k) low) as (λ b. (if (b || leb high s) then overlapped low high (places (s + 2 ^ k) ks)
      else (record { first = s; height = k }) ∷ overlapped low high (places (s + 2 ^ k) ks)) ≡ []) [
        | true ↦ rest
        | false ↦ rw (le-leb high s h) rest
      ]

  overlapped-up_to : (s : ℕ) (ks : List ℕ) → low < s → overlapped low high (places s ks) ≡ up_to high (places s ks)
  overlapped-up_to s [] h = refl
  overlapped-up_to s (k ∷ ks) h =
      let first : leb (s + 2 ^ k) low ≡ false = lt-leb (s + 2 ^ k) low (omega arith) in
      elim (cases_lt s high) [
        | inl before ↦ rw (first, lt-leb high s before)
            (ap (λ ps. (record { first = s; height = k }) ∷ ps) (overlapped-up_to (s + 2 ^ k) ks (omega arith)))
        | inr past ↦ rw (first, le-leb high s past) (overlapped-past (s + 2 ^ k) ks (omega arith))
      ]

  pub overlapped-is : (s : ℕ) (ks : List ℕ)
      → overlapped low high (places s ks) ≡ up_to high (not_leading low (places s ks))
  overlapped-is s [] = refl
  overlapped-is s (k ∷ ks) =
      elim (cases_lt low (s + 2 ^ k)) [
        | inr leads ↦ rw (le-leb (s + 2 ^ k) low leads) (overlapped-is (s + 2 ^ k) ks)
        | inl after ↦
            let first : leb (s + 2 ^ k) low ≡ false = lt-leb (s + 2 ^ k) low after in
            elim (cases_lt s high) [
              | inl before ↦ rw (first, lt-leb high s before)
                  (ap (λ ps. (record { first = s; height = k }) ∷ ps) (overlapped-up_to (s + 2 ^ k) ks after))
              | inr past ↦ rw (first, le-leb high s past) (overlapped-past (s + 2 ^ k) ks (omega arith))
            ]
      ]

-- the sites of a node
module _ (T : Layout) where
  pub sites-join : (a k : ℕ) (l r : Calc) → sites_of (join_calc T a k l r) ≡ sites_of l ++ sites_of r
  sites-join a k l r = elim (T.grafted a k) as (λ b. sites_of (if b then graft a (T.position a k) l r
      else pair (be8 (T.position a k)) l r) ≡ sites_of l ++ sites_of r) [ true ↦ refl | false ↦ refl ]

  module _ (cut : ℕ → ℕ → Bool) where
    pub sites-cut : (k a : ℕ) → cut a k ≡ true → sites_of (node_calc T cut k a) ≡ node a k ∷ []
    sites-cut zero a e = rw e refl
    sites-cut (suc k) a e = rw e refl

    pub sites-leaf : (a : ℕ) → cut a 0 ≡ false → sites_of (node_calc T cut 0 a) ≡ []
    sites-leaf a e = rw e refl

    pub sites-halves : (k a : ℕ) → cut a (suc k) ≡ false → sites_of (node_calc T cut (suc k) a)
        ≡ sites_of (node_calc T cut k a) ++ sites_of (node_calc T cut k (a + 2 ^ k))
    sites-halves k a e = rw e (sites-join a (suc k) (node_calc T cut k a) (node_calc T cut k (a + 2 ^ k)))

  module _ (low high : ℕ) where
    pub sites-covered : (k a : ℕ) → low ≤ a → a + 2 ^ k ≤ high → sites_of (node_calc T (apart low high) k a) ≡ []
    sites-covered zero a l u =
        sites-leaf (apart low high) a (rw (lt-leb (a + 2 ^ 0) low (omega arith), lt-leb high a (omega arith)) refl)
    sites-covered (suc k) a l u =
        let some : 0 < 2 ^ k = pow_pos k in
        let twice = pow_two k in
        let out : apart low high a (suc k) ≡ false =
        rw (lt-leb (a + 2 ^ suc k) low (omega arith), lt-leb high a (omega arith)) refl in
        sites-halves (apart low high) k a out ∙ ap₂ (λ ss ts. ss ++ ts) (sites-covered k a l (omega arith))
        (sites-covered k (a + 2 ^ k) (omega arith) (omega arith))

-- sorted by position
module _ (T : Layout) where
  abbrev pub positions : List Site → List ℕ
  positions ss = map (position_of T) ss

  place-count : (m : ℕ) (s : Site) (ss : List Site)
      → count m (positions (place_in T s ss)) ≡ one_if (eqb (position_of T s) m) + count m (positions ss)
  place-count m s [] = refl
  place-count m s (t ∷ ts) =
      elim (leb (position_of T s) (position_of T t)) as (λ b.
      count m (positions (if b then s ∷ t ∷ ts else t ∷ place_in T s ts))
      ≡ one_if (eqb (position_of T s) m) + (one_if (eqb (position_of T t) m) + count m (positions ts))) [
        | true ↦ refl
        | false ↦ omega (arith, place-count m s ts)
      ]

  pub sort-count : (m : ℕ) (ss : List Site) → count m (positions (by_position T ss)) ≡ count m (positions ss)
  sort-count m [] = refl
  sort-count m (s ∷ ss) =
      place-count m s (by_position T ss) ∙ ap (λ n. one_if (eqb (position_of T s) m) + n) (sort-count m ss)

  place_at_least : (m : ℕ) (s : Site) (ss : List Site) → m ≤ position_of T s → AtLeast m (positions ss)
      → AtLeast m (positions (place_in T s ss))
  place_at_least m s [] l a = (l, tt)
  place_at_least m s (t ∷ ts) l a =
      elim (leb (position_of T s) (position_of T t)) as (λ b.
      AtLeast m (positions (if b then s ∷ t ∷ ts else t ∷ place_in T s ts))) [
        | true ↦ (l, a)
        | false ↦ (a.0, place_at_least m s ts l a.1)
      ]

  place_rises : (s : Site) (ss : List Site) → Rising (positions ss) → Rising (positions (place_in T s ss))
  place_rises s [] r = (tt, tt)
  place_rises s (t ∷ ts) r = go (leb (position_of T s) (position_of T t)) refl (place_rises s ts r.1)
    where
      go : (b : Bool) → leb (position_of T s) (position_of T t) ≡ b → Rising (positions (place_in T s ts))
          → Rising (positions (if b then s ∷ t ∷ ts else t ∷ place_in T s ts))
      go true e q = let l = leb-true (position_of T s) (position_of T t) e in
          ((l, at_least_less (position_of T s) (position_of T t) (positions ts) l r.0), r)
      go false e q = let l = leb-false (position_of T s) (position_of T t) e in
          (place_at_least (position_of T t) s ts (omega (arith, l)) r.0, q)

  pub sort_rises : (ss : List Site) → Rising (positions (by_position T ss))
  sort_rises [] = tt
  sort_rises (s ∷ ss) = place_rises s (by_position T ss) (sort_rises ss)

  -- a sort of the positions gives those of the sorted sites
  pub positions_sorted : (ss : List Site) (ps : List ℕ) → IsPermutation (positions ss) ps → IsNonDecreasing ps
      → ps ≡ positions (by_position T ss)
  positions_sorted ss ps p up =
      sorted_is (positions ss) ps (positions (by_position T ss)) p up (sort_rises ss) (λ m. sort-count m ss)

-- lists of positions to which those of a node's sites are added
module _ (T : Layout) (low high : ℕ) where
  abbrev pub apart_under : ℕ → ℕ → List Site
  apart_under k a = sites_of (node_calc T (apart low high) k a)

  pub adds_itself : (k a p : ℕ) (old new : List ℕ) → true ≡ apart low high a k → p ≡ T.shape.position a k
      → new ≡ old ++ p ∷ [] → new ≡ old ++ positions T (apart_under k a)
  adds_itself k a p old new e q f =
      f ∙ ap (λ x. old ++ x ∷ []) q ∙ ap (λ ss. old ++ positions T ss) (sym (sites-cut T (apart low high) k a (sym e)))

  adds_none : (k a : ℕ) (old : List ℕ) → apart_under k a ≡ [] → old ≡ old ++ positions T (apart_under k a)
  adds_none k a old e = sym (append-nil old) ∙ ap (λ ss. old ++ positions T ss) (sym e)

  pub adds_leaf : (k a : ℕ) (old : List ℕ) → false ≡ apart low high a k → k ≡ 0
      → old ≡ old ++ positions T (apart_under k a)
  adds_leaf zero a old e z = adds_none zero a old (sites-leaf T (apart low high) a (sym e))
  adds_leaf (suc k) a old e z = absurd (omega arith)

  pub adds_covered : (k a n : ℕ) (b : Bool) (old : List ℕ) → low ≤ a → n ≡ 2 ^ k → b ≡ leb (a + n) high → b ≡ true
      → old ≡ old ++ positions T (apart_under k a)
  adds_covered k a n b old l e u t =
      let fits : a + n ≤ high = leb-true (a + n) high (sym u ∙ t) in
      adds_none k a old (sites-covered T low high k a l (omega arith))

  pub adds_halves : (k a : ℕ) (old mid new : List ℕ) → false ≡ apart low high a k → k ≢ 0
      → mid ≡ old ++ positions T (apart_under (k - 1) a)
      → new ≡ mid ++ positions T (apart_under (k - 1) (a + 2 ^ (k - 1))) → new ≡ old ++ positions T (apart_under k a)
  adds_halves zero a old mid new e ne f g = absurd (ne refl)
  adds_halves (suc k) a old mid new e ne f g =
      let less : suc k - 1 ≡ k = omega arith in
      let xs = positions T (apart_under k a) in
      let ys = positions T (apart_under k (a + 2 ^ k)) in
      let f' : mid ≡ old ++ xs = f ∙ ap (λ j. old ++ positions T (apart_under j a)) less in
      let g' : new ≡ mid ++ ys = g ∙ ap (λ j. mid ++ positions T (apart_under j (a + 2 ^ j))) less in
      g' ∙ ap (λ ps. ps ++ ys) f' ∙ append_assoc old xs ys
      ∙ ap (λ ps. old ++ ps) (sym (map-append (position_of T) (apart_under k a) (apart_under k (a + 2 ^ k))))
      ∙ ap (λ ss. old ++ positions T ss) (sym (sites-halves T (apart low high) k a (sym e)))

pub on_ok : {A E : Type 0} {P Q : Type 0} (r : Result A E) → (P → Q) → OnOk r P → OnOk r Q
on_ok (Ok x) f p = f p
on_ok (Err e) f p = p

pub not_both : (b : Bool) → b ≡ true → b ≡ false → ⊥
not_both b t f = cc

pub not_below : (b : Bool) (m n : ℕ) → b ≡ true → b ≡ leb m n → n < m → ⊥
not_below b m n t e l = let below : m ≤ n = leb-true m n (sym e ∙ t) in omega arith

-- the peaks into which a list of positions goes: all, or those that share a leaf with the range
abbrev pub entered : Bool → ℕ → ℕ → List Peak → List Peak
entered all low high [] = []
entered all low high (p ∷ ps) = if all then p ∷ entered all low high ps
    else (if apart low high p.first p.height then entered all low high ps else p ∷ entered all low high ps)

entered-all : (low high : ℕ) (ps : List Peak) → entered true low high ps ≡ ps
entered-all low high [] = refl
entered-all low high (p ∷ ps) = ap (λ qs. p ∷ qs) (entered-all low high ps)

entered-overlapped : (low high : ℕ) (ps : List Peak) → entered false low high ps ≡ overlapped low high ps
entered-overlapped low high [] = refl
entered-overlapped low high (p ∷ ps) = rw (entered-overlapped low high ps) refl

-- the positions of the sites in them
abbrev pub entered_positions : Layout → Bool → ℕ → ℕ → List Peak → List ℕ
entered_positions T all low high ps = positions T (sites_in T (apart low high) (entered all low high ps))

pub entered_grows : (T : Layout) (all : Bool) (low high : ℕ) (p : Peak) (ps qs : List Peak) (old new found : List ℕ)
    → (all ≡ true) ⊎ (apart low high p.first p.height ≡ false) → ps ≡ p ∷ qs
    → new ≡ old ++ positions T (apart_under T low high p.height p.first)
    → old ++ entered_positions T all low high ps ≡ found → new ++ entered_positions T all low high qs ≡ found
entered_grows T all low high p ps qs old new found enters e grown f =
    let later = sites_in T (apart low high) (entered all low high qs) in
    let here = apart_under T low high p.height p.first in
    let some : entered all low high ps ≡ p ∷ entered all low high qs = ap (entered all low high) e ∙ first all enters in
    ap (λ xs. xs ++ positions T later) grown ∙ append_assoc old (positions T here) (positions T later)
    ∙ ap (λ xs. old ++ xs) (sym (map-append (position_of T) here later)
    ∙ ap (λ rs. positions T (sites_in T (apart low high) rs)) (sym some)) ∙ f
  where
    first : (b : Bool) → (b ≡ true) ⊎ (apart low high p.first p.height ≡ false)
        → entered b low high (p ∷ qs) ≡ p ∷ entered b low high qs
    first true i = refl
    first false (inl t) = absurd (cc)
    first false (inr o) = rw o refl

-- the positions, sorted
pub entered_sorted : (T : Layout) (all : Bool) (n low high : ℕ) (found sorted : List ℕ)
    → found ≡ entered_positions T all low high (peaks_of T n) → IsPermutation found sorted → IsNonDecreasing sorted
    → sorted ≡ positions T (if all then planned_sites T n low high else sibling_sites T n low high)
entered_sorted T all n low high found sorted e p up =
    let peaks = peaks_of T n in
    let sites : List Peak → List ℕ = λ ps. positions T (by_position T (sites_in T (apart low high) ps)) in
    positions_sorted T (sites_in T (apart low high) (entered all low high peaks)) sorted
    (subst (λ xs. IsPermutation xs sorted) e p) up
    ∙ elim all as (λ b. sites (entered b low high peaks)
    ≡ positions T (if b then planned_sites T n low high else sibling_sites T n low high)) [
      | true ↦ ap sites (entered-all low high peaks)
      | false ↦ ap sites (entered-overlapped low high peaks ∙ overlapped-is low high 0 (T.shape.peaks n))
    ]
