-- The siblings of a range proof ascend by position.
use Rattle.std.proofs.Common.{◌≡◌, List, [], ◌∷◌, ◌++◌, Bool, true, false, if◌then◌else◌, leb, leb-true, leb-false, refl, sym, ap, ◌∙◌, arith, append_assoc}
use Rattle.std.specs.List.Sorted.{IsPermutation}
use Rattle.std.proofs.lemmas.List.Sorted.{IsPermutation-refl, IsPermutation-cons, IsPermutation-swap, IsPermutation-trans}
use Rattle.storage_merkle.specs.Calc.{Site, front, back}
use Rattle.storage_merkle.specs.Trees.{Layout, peaks_of, folded, unfolded}
use Rattle.storage_merkle.specs.RangeProofs.{apart, leading, not_leading, up_to, trailing, sites_in, one_for, position_of, place_in, by_position}
use Rattle.storage_merkle.specs.Soundness.{Ascends, SiblingsAscend}

module _ (T : Layout) where
  placed : (s : Site) (ss : List Site) → IsPermutation (s ∷ ss) (place_in T s ss)
  placed s [] = IsPermutation-refl (s ∷ [])
  placed s (t ∷ ts) =
      elim (leb (position_of T s) (position_of T t)) as (λ b.
      IsPermutation (s ∷ (t ∷ ts)) (if b then s ∷ (t ∷ ts) else t ∷ place_in T s ts)) [
        | true ↦ IsPermutation-refl (s ∷ (t ∷ ts))
        | false ↦ IsPermutation-trans (s ∷ (t ∷ ts)) (t ∷ (s ∷ ts)) (t ∷ place_in T s ts)
            (IsPermutation-swap (s ∷ (t ∷ ts)) (t ∷ (s ∷ ts)) 0 1 (omega arith) (omega arith) refl)
            (IsPermutation-cons t (s ∷ ts) (place_in T s ts) (placed s ts))
      ]

  pub sorted : (ss : List Site) → IsPermutation ss (by_position T ss)
  sorted [] = IsPermutation-refl []
  sorted (s ∷ ss) = IsPermutation-trans (s ∷ ss) (s ∷ by_position T ss) (place_in T s (by_position T ss))
      (IsPermutation-cons s ss (by_position T ss) (sorted ss)) (placed s (by_position T ss))

  place_ascends : (s : Site) (ss : List Site) → Ascends T ss → Ascends T (place_in T s ss)
  place_ascends s [] a = tt
  place_ascends s (t ∷ []) a = go (leb (position_of T s) (position_of T t)) refl
    where
      go : (b : Bool) → leb (position_of T s) (position_of T t) ≡ b
          → Ascends T (if b then s ∷ (t ∷ []) else t ∷ (s ∷ []))
      go true e = (leb-true (position_of T s) (position_of T t) e, tt)
      go false e = let l = leb-false (position_of T s) (position_of T t) e in (omega (arith, l), tt)
  place_ascends s (t ∷ (u ∷ ts)) a = go (leb (position_of T s) (position_of T t))
      (leb (position_of T s) (position_of T u)) refl refl (place_ascends s (u ∷ ts) a.1)
    where
      go : (b c : Bool) → leb (position_of T s) (position_of T t) ≡ b → leb (position_of T s) (position_of T u) ≡ c
          → Ascends T (if c then s ∷ (u ∷ ts) else u ∷ place_in T s ts)
          → Ascends T (if b then s ∷ (t ∷ (u ∷ ts)) else t ∷ (if c then s ∷ (u ∷ ts) else u ∷ place_in T s ts))
      go true c e f r = (leb-true (position_of T s) (position_of T t) e, a)
      go false true e f r = let l = leb-false (position_of T s) (position_of T t) e in (omega (arith, l), r)
      go false false e f r = (a.0, r)

  pub ascends : (ss : List Site) → Ascends T (by_position T ss)
  ascends [] = tt
  ascends (s ∷ ss) = place_ascends s (by_position T ss) (ascends ss)

pub siblings_ascend : SiblingsAscend
siblings_ascend T b n i low high =
    let xs = folded b i (peaks_of T n) in
    let ys = unfolded b i (peaks_of T n) in
    let A = one_for front (leading low xs) in
    let B = sites_in T (apart low high) (leading low ys) in
    let C = sites_in T (apart low high) (trailing high (not_leading low xs)) in
    let D = one_for back (trailing high ys) in
    let inside = sites_in T (apart low high) (up_to high (not_leading low xs))
    ++ sites_in T (apart low high) (up_to high (not_leading low ys)) in
    let E = by_position T inside in
    record {
      before = A ++ (B ++ (C ++ D));
      siblings = E;
      all = sym (append_assoc A (B ++ (C ++ D)) E
          ∙ ap (λ x. A ++ x) (append_assoc B (C ++ D) E ∙ ap (λ x. B ++ x) (append_assoc C D E)));
      inside = sorted T inside;
      ascending = ascends T inside;
    }
