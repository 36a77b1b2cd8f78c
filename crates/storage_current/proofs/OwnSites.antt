-- How many digests the proof of one leaf has.
use Rattle.std.proofs.Common.{◌≡◌, ℕ, zero, suc, ◌+◌, ◌<◌, ◌≤◌, ◌^◌, List, [], ◌∷◌, ◌++◌, length, take, drop, Bool, true, false, if◌then◌else◌, ◌||◌, leb, le-leb, ◌⊎◌, inl, inr, refl, ap, ◌∙◌, arith, length-append}
use Rattle.std.proofs.lemmas.Bool.{cases_lt, lt-leb}
use Rattle.storage_merkle.specs.Shape.{Laws, leaves_under}
use Rattle.storage_merkle.specs.Laws.Multiples.{pow_two, pow_order}
use Rattle.storage_merkle.specs.Calc.{Site, Calc, pair, graft, be8, front, back}
use Rattle.storage_merkle.specs.declared.merkle.bagging.Bagging.{Bagging}
use Rattle.storage_merkle.specs.declared.merkle.bagging.Bagging.TheVariants.{ForwardFold, BackwardFold}
use Rattle.storage_merkle.specs.Trees.{Layout, Peak, places, peaks_of, folded, unfolded, node_calc, join_calc, part}
use Rattle.storage_merkle.specs.RangeProofs.{apart, leading, not_leading, up_to, trailing, sites_of, sites_in, one_for, position_of, place_in, by_position, sites}

length-place_in : (T : Layout) (s : Site) (ss : List Site) → length (place_in T s ss) ≡ suc (length ss)
length-place_in T s [] = refl
length-place_in T s (t ∷ ts) =
    elim (leb (position_of T s) (position_of T t)) as (λ b. length (if b then s ∷ t ∷ ts else t ∷ place_in T s ts)
    ≡ suc (suc (length ts))) [
      | true ↦ refl
      | false ↦ ap suc (length-place_in T s ts)
    ]

length-by_position : (T : Layout) (ss : List Site) → length (by_position T ss) ≡ length ss
length-by_position T [] = refl
length-by_position T (s ∷ ss) = length-place_in T s (by_position T ss) ∙ ap suc (length-by_position T ss)

module _ (T : Layout) (low : ℕ) where
  abbrev cut : ℕ → ℕ → Bool
  cut = apart low (low + 1)

  abbrev count : List Peak → ℕ
  count ps = length (sites_in T cut ps)

  -- ---- in a node: one where the leaf isn't below it, else at most one for each level

  outside_is : (k a : ℕ) → (a + 2 ^ k ≤ low) ⊎ (low < a) → cut a k ≡ true
  outside_is k a (inl before) = rw (le-leb (a + 2 ^ k) low before) refl
  outside_is k a (inr past) = elim (leb (a + 2 ^ k) low) as (λ b. (b || leb (low + 1) a) ≡ true) [
    | true ↦ refl
    | false ↦
        le-leb (low + 1) a (omega arith)
  ]

  inside_is : (k a : ℕ) → a ≤ low → low < a + 2 ^ k → cut a k ≡ false
  inside_is k a l u = rw (lt-leb (a + 2 ^ k) low u, lt-leb (low + 1) a (omega arith)) refl

  outside : (k a : ℕ) → (a + 2 ^ k ≤ low) ⊎ (low < a) → length (sites_of (node_calc T cut k a)) ≡ 1
  outside zero a o = rw (outside_is zero a o) refl
  outside (suc k) a o = rw (outside_is (suc k) a o) refl

  joined : (k a : ℕ) (l r : Calc) → length (sites_of (join_calc T a k l r)) ≡ length (sites_of l) + length (sites_of r)
  joined k a l r =
      elim (T.grafted a k) as (λ b. length (sites_of (if b then graft a (T.position a k) l r
      else pair (be8 (T.position a k)) l r)) ≡ length (sites_of l) + length (sites_of r)) [
        | true ↦ length-append (sites_of l) (sites_of r)
        | false ↦ length-append (sites_of l) (sites_of r)
      ]

  inside : (k a : ℕ) → a ≤ low → low < a + 2 ^ k → length (sites_of (node_calc T cut k a)) ≤ k
  inside zero a l u = rw (inside_is zero a l u) (omega arith)
  inside (suc k) a l u =
      let left = node_calc T cut k a in
      let right = node_calc T cut k (a + 2 ^ k) in
      let both = joined (suc k) a left right in
      rw (inside_is (suc k) a l u) (elim (cases_lt low (a + 2 ^ k)) [
        | inl first ↦ let one = inside k a l first in let other = outside k (a + 2 ^ k) (inr first) in
            omega (arith, both, one, other)
        | inr second ↦ let one = outside k a (inl second) in
            let other = inside k (a + 2 ^ k) second (omega (arith, pow_two k)) in omega (arith, both, one, other)
      ])

  -- ---- in peaks side by side

  past_all : (hs : List ℕ) (s : ℕ) → low < s → count (places s hs) ≡ length hs
  past_all [] s past = refl
  past_all (k ∷ hs) s past =
      let here = outside k s (inr past) in
      let rest = past_all hs (s + 2 ^ k) (omega arith) in
      let both = length-append (sites_of (part T cut (record { first = s; height = k })))
      (sites_in T cut (places (s + 2 ^ k) hs)) in
      omega (arith, here, rest, both)

  counted : (hs : List ℕ) (s : ℕ) → leaves_under hs ≤ 2 ^ 62 → count (places s hs) ≤ length hs + 62
  unfolding leaves_under
  counted [] s few = omega arith
  counted (k ∷ hs) s few =
      let both = length-append (sites_of (part T cut (record { first = s; height = k })))
      (sites_in T cut (places (s + 2 ^ k) hs)) in
      let small : k ≤ 62 = pow_order k 62 (omega arith) in
      elim (cases_lt low s) [
        | inl past ↦ let e = past_all (k ∷ hs) s past in omega (arith, e)
        | inr from ↦ elim (cases_lt low (s + 2 ^ k)) [
          | inl within ↦ let here = inside k s from within in let rest = past_all hs (s + 2 ^ k) within in
              omega (arith, both, here, rest)
          | inr before ↦ let here = outside k s (inl before) in let rest = counted hs (s + 2 ^ k) (omega arith) in
              omega (arith, both, here, rest)
        ]
      ]

  -- ---- in the parts of a list of peaks

  led : (ps : List Peak) → count (leading low ps) + count (not_leading low ps) ≡ count ps
  led [] = refl
  led (p ∷ ps) =
      elim (leb (p.first + 2 ^ p.height) low) as (λ b. count (if b then p ∷ leading low ps else [])
      + count (if b then not_leading low ps else p ∷ ps) ≡ count (p ∷ ps)) [
        | true ↦
            let here = sites_of (part T cut p) in
            let more = led ps in
            let front = length-append here (sites_in T cut (leading low ps)) in
            let all = length-append here (sites_in T cut ps) in
            omega (arith, more, front, all)
        | false ↦ omega arith
      ]

  upped : (ps : List Peak) → count (up_to (low + 1) ps) + count (trailing (low + 1) ps) ≡ count ps
  upped [] = refl
  upped (p ∷ ps) =
      elim (leb (low + 1) p.first) as (λ b. count (if b then [] else p ∷ up_to (low + 1) ps)
      + count (if b then p ∷ ps else trailing (low + 1) ps) ≡ count (p ∷ ps)) [
        | true ↦ omega arith
        | false ↦
            let here = sites_of (part T cut p) in
            let more = upped ps in
            let front = length-append here (sites_in T cut (up_to (low + 1) ps)) in
            let all = length-append here (sites_in T cut ps) in
            omega (arith, more, front, all)
      ]

  cut_at : (i : ℕ) (ps : List Peak) → count (take i ps) + count (drop i ps) ≡ count ps
  cut_at zero ps = omega arith
  cut_at (suc i) [] = refl
  cut_at (suc i) (p ∷ ps) =
      let here = sites_of (part T cut p) in
      let more = cut_at i ps in
      let front = length-append here (sites_in T cut (take i ps)) in
      let all = length-append here (sites_in T cut ps) in
      omega (arith, more, front, all)

  both_folds : (b : Bagging) (i : ℕ) (ps : List Peak) → count (folded b i ps) + count (unfolded b i ps) ≡ count ps
  both_folds ForwardFold i ps = omega arith
  both_folds BackwardFold i ps = cut_at i ps

  at_most_one : (s : Site) (ps : List Peak) → length (one_for s ps) ≤ 1
  at_most_one s [] = omega arith
  at_most_one s (p ∷ ps) = omega arith

  -- ---- in all: at most 63 peaks, 62 levels below the one with the leaf, and two folds

  pub few_sites : Laws T.shape → (b : Bagging) (n i : ℕ) → n ≤ 2 ^ 62 → length (sites T low (low + 1) b n i) ≤ 127
  few_sites laws b n i few =
      let high = low + 1 in
      let ps = peaks_of T n in
      let xs = folded b i ps in
      let ys = unfolded b i ps in
      let A = one_for front (leading low xs) in
      let B = sites_in T cut (leading low ys) in
      let C = sites_in T cut (trailing high (not_leading low xs)) in
      let D = one_for back (trailing high ys) in
      let E = sites_in T cut (up_to high (not_leading low xs)) in
      let F = sites_in T cut (up_to high (not_leading low ys)) in
      let G = by_position T (E ++ F) in
      let a = at_most_one front (leading low xs) in
      let d = at_most_one back (trailing high ys) in
      let ef = length-append E F in
      let g = length-by_position T (E ++ F) in
      let dg = length-append D G in
      let cdg = length-append C (D ++ G) in
      let bcdg = length-append B (C ++ (D ++ G)) in
      let whole = length-append A (B ++ (C ++ (D ++ G))) in
      let lx = led xs in
      let ly = led ys in
      let ux = upped (not_leading low xs) in
      let uy = upped (not_leading low ys) in
      let parts = both_folds b i ps in
      let sum : leaves_under (T.shape.peaks n) ≤ 2 ^ 62 = omega (arith, laws.sum n) in
      let most = counted (T.shape.peaks n) 0 sum in
      let peaks = laws.few n few in
      omega (arith, a, d, ef, g, dg, cdg, bcdg, whole, lx, ly, ux, uy, parts, most, peaks)
