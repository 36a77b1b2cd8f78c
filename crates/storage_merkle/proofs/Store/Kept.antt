-- The digests that a store keeps, sorted by position.
use Rattle.std.proofs.Common.{◌≡◌, ℕ, zero, suc, ◌+◌, ◌^◌, List, [], ◌∷◌, ◌++◌, take, drop, Bool, true, false, if◌then◌else◌, inl, inr, refl, sym, ap, ap₂, ◌∙◌, arith, subst, leb, le-leb, append_assoc, All}
use Rattle.std.specs.List.Sorted.{IsPermutation, IsNonDecreasingBy}
use Rattle.std.proofs.lemmas.Bool.{cases_lt, lt-leb}
use Rattle.std.proofs.lemmas.List.{map-append}
use Rattle.std.proofs.lemmas.List.Sorted.{IsPermutation-refl, IsPermutation-cons, IsPermutation-middle, IsPermutation-trans, IsPermutation-map, IsPermutation-append_right, IsPermutation-sym, All-permutation}
use Rattle.std.proofs.lemmas.List.Elements.{All-nil, All-cons}
use Rattle.storage_codec.specs.Digests.{HashFunction}
use Rattle.storage_merkle.specs.Shape.{Shape, Laws}
use Rattle.storage_merkle.specs.Calc.{Site, back, node, Values, eval}
use Rattle.storage_merkle.specs.declared.merkle.bagging.Bagging.{Bagging}
use Rattle.storage_merkle.specs.Trees.{Layout, Peak, places, peaks_of, node_calc, ungrafted, folded, unfolded}
use Rattle.storage_merkle.specs.RangeProofs.{apart, not_leading, up_to, position_of, by_position}
use Rattle.storage_merkle.specs.Rests.{peaks_from, AreFolded, AreAfterLeading}
use Rattle.storage_merkle.specs.CheckParts.{top_sites}
use Rattle.storage_merkle.specs.Extracted.{nodes_under, nodes_in, overlapped, entries, by_bytes, digest_at, checked_sites}
use Rattle.storage_merkle.specs.StoreParts.{nodes_among}
use Rattle.storage_merkle.specs.Stores.{kept_sites}
use Rattle.storage_merkle.proofs.AscendingNumbers.{count-permutation, same_rising}
use Rattle.storage_merkle.proofs.Siblings.{positions, sort-count, sort_rises, overlapped-past}
use Rattle.storage_merkle.proofs.Extracted.{tells}
use Rattle.storage_merkle.proofs.Plan.Sites.{AllSites, IsAlignedNode, one_place}
use Rattle.storage_merkle.proofs.Store.Entries.{all_sorted, kept_nodes, nodes_aligned}
use Rattle.storage_merkle.proofs.ExtractedEntries.{sorted_entries}
use Rattle.storage_merkle.proofs.Found.{found_rest}

-- ---- sites in another order, sorted

module _ (T : Layout) (L : Laws T.shape) where
  same_sites : (ss us : List Site) → AllSites IsAlignedNode ss → AllSites IsAlignedNode us
      → positions T ss ≡ positions T us → ss ≡ us
  same_sites [] [] a b e = refl
  same_sites [] (u ∷ us) a b e = cc
  same_sites (s ∷ ss) [] a b e = cc
  same_sites (s ∷ ss) (u ∷ us) a b e =
      let here : position_of T s ≡ position_of T u = cc in
      let later : positions T ss ≡ positions T us = cc in
      ap₂ (λ x xs. x ∷ xs) (one_place T L s u a.0 b.0 here) (same_sites ss us a.1 b.1 later)

  sorted_alike : (ss us : List Site) → AllSites IsAlignedNode ss → AllSites IsAlignedNode us → IsPermutation ss us
      → by_position T ss ≡ by_position T us
  sorted_alike ss us a b p =
      let q = IsPermutation-map (position_of T) ss us p in
      same_sites (by_position T ss) (by_position T us) (all_sorted IsAlignedNode T ss a)
      (all_sorted IsAlignedNode T us b)
      (same_rising (positions T (by_position T ss)) (positions T (by_position T us)) (sort_rises T ss) (sort_rises T us)
      (λ m. sort-count T m ss ∙ sym (count-permutation m (positions T ss) (positions T us) q)
      ∙ sym (sort-count T m us)))

to_all : (Q : Site → Type 0) (ss : List Site) → AllSites Q ss → All Q ss
to_all Q [] a = All-nil Q
to_all Q (s ∷ ss) a = All-cons Q s ss a.0 (to_all Q ss a.1)

from_all : (Q : Site → Type 0) (ss : List Site) → All Q ss → AllSites Q ss
from_all Q [] a = tt
from_all Q (s ∷ ss) a = (a 0 s (omega arith), from_all Q ss (λ i d l. a (suc i) d (omega arith)))

all_moved : (Q : Site → Type 0) (ss us : List Site) → IsPermutation ss us → AllSites Q us → AllSites Q ss
all_moved Q ss us p a = from_all Q ss (All-permutation Q us ss (IsPermutation-sym ss us p) (to_all Q us a))

-- ---- the nodes of a check and the peaks apart are all that is kept

under_one : (cut : ℕ → ℕ → Bool) (k a : ℕ) → cut a k ≡ true → nodes_under cut k a ≡ node a k ∷ []
under_one cut zero a e = refl
under_one cut (suc k) a e = rw e refl

among_one : (x : Site) (A B C : List Site) → IsPermutation (A ++ B) C → IsPermutation (A ++ x ∷ B) (x ∷ C)
among_one x A B C p = IsPermutation-trans (A ++ x ∷ B) (x ∷ (A ++ B)) (x ∷ C) (IsPermutation-middle A x B)
    (IsPermutation-cons x (A ++ B) C p)

among_more : (U A B C : List Site) → IsPermutation (A ++ B) C → IsPermutation ((U ++ A) ++ B) (U ++ C)
among_more U A B C p =
    subst (λ xs. IsPermutation xs (U ++ C)) (sym (append_assoc U A B)) (IsPermutation-append_right U (A ++ B) C p)

module _ (low high : ℕ) where
  abbrev cut : ℕ → ℕ → Bool
  cut = apart low high

  abbrev found_in : List Peak → ℕ → List Site
  found_in ps g = nodes_in cut (overlapped low high ps) ++ nodes_among (top_sites low high ps g)

  abbrev kept_in : List Peak → ℕ → List Site
  kept_in ps g = nodes_in cut (take g ps ++ up_to high (drop g ps))

  module _ (s k : ℕ) (ps : List Peak) (ts : List Site) (C : List Site)
      (p : IsPermutation (nodes_in cut (overlapped low high ps) ++ nodes_among ts) C) where
    abbrev first : Peak
    first = record { first = s; height = k }

    -- one more peak
    one_more : IsPermutation (nodes_in cut (if cut s k then overlapped low high ps else first ∷ overlapped low high ps)
        ++ nodes_among (if cut s k then node s k ∷ ts else ts)) (nodes_under cut k s ++ C)
    one_more = elim (tells (cut s k)) [
      | inl e ↦ rw (e, under_one cut k s e)
          (among_one (node s k) (nodes_in cut (overlapped low high ps)) (nodes_among ts) C p)
      | inr e ↦ rw e (among_more (nodes_under cut k s) (nodes_in cut (overlapped low high ps)) (nodes_among ts) C p)
    ]

  all_kept : (s : ℕ) (ks : List ℕ) (g : ℕ) → IsPermutation (found_in (places s ks) g) (kept_in (places s ks) g)
  all_kept s [] zero = IsPermutation-refl []
  all_kept s [] (suc g) = IsPermutation-refl []
  all_kept s (k ∷ ks) (suc g) = one_more s k (places (s + 2 ^ k) ks) (top_sites low high (places (s + 2 ^ k) ks) g)
      (kept_in (places (s + 2 ^ k) ks) g) (all_kept (s + 2 ^ k) ks g)
  all_kept s (k ∷ ks) zero =
      let ps = places (s + 2 ^ k) ks in
      let ts = top_sites low high ps 0 in
      let Begun : Bool → Type 0 = λ c. IsPermutation (nodes_in cut (overlapped low high (places s (k ∷ ks)))
      ++ nodes_among (if c then back ∷ [] else (if cut s k then node s k ∷ ts else ts)))
      (nodes_in cut (if c then [] else (record { first = s; height = k }) ∷ up_to high ps)) in
      elim (cases_lt s high) [
        | inl before ↦ subst Begun (sym (lt-leb high s before))
            (one_more s k ps (top_sites low high ps 0) (kept_in ps 0) (all_kept (s + 2 ^ k) ks 0))
        | inr past ↦ subst (λ qs. IsPermutation
            (nodes_in cut qs ++ nodes_among (top_sites low high (places s (k ∷ ks)) 0)) (kept_in (places s (k ∷ ks)) 0))
            (sym (overlapped-past low high s (k ∷ ks) past)) (rw (le-leb high s past) (IsPermutation-refl []))
      ]

  -- these peaks are given
  module _ (h : HashFunction) (T : Layout) (v : Values) where
    given_there : (k a : ℕ) → cut a k ≡ true → eval h v (node_calc T cut k a) ≡ v.digest (node a k)
    given_there zero a e = rw e refl
    given_there (suc k) a e = rw e refl

    abbrev same_entries : List Site → Type 0
    same_entries ss =
        entries (ungrafted T.shape) v.digest (nodes_among ss) ≡ entries T (digest_at h v T cut) (nodes_among ss)

    one_given : (a k : ℕ) (ss : List Site) → same_entries ss → same_entries (if cut a k then node a k ∷ ss else ss)
    one_given a k ss e = elim (tells (cut a k)) [
      | inl c ↦ rw c (ap₂ (λ x xs. (T.shape.position a k, x) ∷ xs) (sym (given_there k a c)) e)
      | inr c ↦ rw c e
    ]

    given_peaks : (ps : List Peak) (g : ℕ) → same_entries (top_sites low high ps g)
    given_peaks [] g = refl
    given_peaks (p ∷ ps) zero =
        elim (leb high p.first) as (λ c. same_entries (if c then back ∷ [] else (if cut p.first p.height
        then node p.first p.height ∷ top_sites low high ps zero else top_sites low high ps zero))) [
          | true ↦ refl
          | false ↦ one_given p.first p.height (top_sites low high ps zero) (given_peaks ps zero)
        ]
    given_peaks (p ∷ ps) (suc g) = one_given p.first p.height (top_sites low high ps g) (given_peaks ps g)

-- ---- what is kept

entries-append : (T : Layout) (f : Site → List ℕ) (ss ts : List Site)
    → entries T f (ss ++ ts) ≡ entries T f ss ++ entries T f ts
entries-append T f ss ts = map-append (λ s. (position_of T s, f s)) ss ts

module _ (S : Shape) (LS : Laws S) (h : HashFunction) (b : Bagging) (n i low high : ℕ) (f a r g : ℕ)
    (parts : AreFolded S b i n f) (after : AreAfterLeading S low 0 n f a r g) (T : Layout) (same : T.shape ≡ S)
    (v : Values) where
  abbrev tops : List Site
  tops = top_sites low high (peaks_from S a r) g

  abbrev F : Site → List ℕ
  F = digest_at h v T (apart low high)

  abbrev found_here : List Site
  found_here = nodes_in (apart low high) (overlapped low high (peaks_from S a r)) ++ nodes_among tops

  abbrev kept_here : List Site
  kept_here = kept_nodes T b n i low high

  L : Laws T.shape
  L = subst Laws (sym same) LS

  peaks_same : peaks_from S 0 n ≡ peaks_of T n
  peaks_same = ap (λ (U : Shape). places 0 (U.peaks n)) (sym same)

  moved : IsPermutation found_here kept_here
  moved =
      let lefts : take g (peaks_from S a r) ≡ not_leading low (folded b i (peaks_of T n)) =
      after.folded_are ∙ ap (not_leading low) (parts.folded_are ∙ ap (folded b i) peaks_same) in
      let rights : drop g (peaks_from S a r) ≡ unfolded b i (peaks_of T n) =
      after.unfolded_are ∙ parts.unfolded_are ∙ ap (unfolded b i) peaks_same in
      subst (λ ys. IsPermutation found_here
      (nodes_in (apart low high) (not_leading low (folded b i (peaks_of T n)) ++ up_to high ys))) rights
      (subst (λ xs. IsPermutation found_here (nodes_in (apart low high) (xs ++ up_to high (drop g (peaks_from S a r)))))
      lefts (all_kept low high a (S.peaks r) g))

  pub kept_sorted : {D : Type 0} (text : D → List ℕ) (found xs ys : List (ℕ × D))
      → by_bytes text found ≡ entries T F (checked_sites T n low high)
      → by_bytes text xs ≡ by_bytes text found ++ entries (ungrafted S) v.digest (nodes_among tops) → IsPermutation xs ys
      → IsNonDecreasingBy (λ e. e.0) ys → by_bytes text ys ≡ entries T F (kept_sites T b n i low high)
  kept_sorted text found xs ys ef ex p up =
      let al = nodes_aligned T L b n i low high in
      let apart_ones : entries (ungrafted S) v.digest (nodes_among tops) ≡ entries T F (nodes_among tops) =
      subst (λ U. entries (ungrafted U) v.digest (nodes_among tops) ≡ entries T F (nodes_among tops)) same
      (given_peaks low high h T v (peaks_from S a r) g) in
      let all : by_bytes text xs ≡ entries T F found_here = ex ∙ ap₂ (λ us ws. us ++ ws) (ef
      ∙ sym (found_rest h T low high v S n f a r g same after)) apart_ones ∙ sym (entries-append T F
      (nodes_in (apart low high) (overlapped low high (peaks_from S a r))) (nodes_among tops)) in
      let aligned : AllSites IsAlignedNode found_here = all_moved IsAlignedNode found_here kept_here moved al in
      sorted_entries T L F text found_here aligned xs ys all p up
      ∙ ap (entries T F) (sorted_alike T L found_here kept_here aligned al moved)
