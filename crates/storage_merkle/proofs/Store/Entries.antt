-- The digests that a store keeps, by their positions.
use Rattle.std.proofs.Common.{◌≡◌, ℕ, ◌%◌, ◌≤◌, ◌^◌, List, [], ◌∷◌, ◌++◌, Bool, true, false, if◌then◌else◌, inl, inr, refl, ap, arith, leb, eqb, eqb-true, eq-eqb, Some}
use Rattle.storage_merkle.specs.Shape.{Laws}
use Rattle.storage_merkle.specs.Calc.{Site}
use Rattle.storage_merkle.specs.declared.merkle.bagging.Bagging.{Bagging}
use Rattle.storage_merkle.specs.Trees.{Layout, Peak, peaks_of, folded, unfolded}
use Rattle.storage_merkle.specs.RangeProofs.{apart, not_leading, up_to, position_of, place_in, by_position, same_site}
use Rattle.storage_merkle.specs.Extracted.{nodes_in, entries}
use Rattle.storage_merkle.specs.Stores.{entry_at, kept_sites}
use Rattle.storage_merkle.proofs.Agreeing.{AllPeaks}
use Rattle.storage_merkle.proofs.Distinct.{times, one_if}
use Rattle.storage_merkle.proofs.RangeOwn.{same_site-eq, all_not_leading, all_up_to, all_folded, peaks_under}
use Rattle.storage_merkle.proofs.Plan.Sites.{AllSites, IsAlignedNode, one_place}
use Rattle.storage_merkle.proofs.Extracted.{tells, aligned_over, all_weaker}

-- sorted, all of them
module _ (Q : Site → Type 0) (T : Layout) where
  all_placed : (s : Site) (ss : List Site) → Q s → AllSites Q ss → AllSites Q (place_in T s ss)
  all_placed s [] p a = (p, tt)
  all_placed s (t ∷ ts) p a =
      elim (leb (position_of T s) (position_of T t)) as (λ b.
      AllSites Q (if b then s ∷ t ∷ ts else t ∷ place_in T s ts)) [
        | true ↦ (p, a)
        | false ↦ (a.0, all_placed s ts p a.1)
      ]

  pub all_sorted : (ss : List Site) → AllSites Q ss → AllSites Q (by_position T ss)
  all_sorted [] a = tt
  all_sorted (s ∷ ss) a = all_placed s (by_position T ss) a.0 (all_sorted ss a.1)

all_joined : (Q : Peak → Type 0) (ps qs : List Peak) → AllPeaks Q ps → AllPeaks Q qs → AllPeaks Q (ps ++ qs)
all_joined Q [] qs a b = b
all_joined Q (p ∷ ps) qs a b = (a.0, all_joined Q ps qs a.1 b)

-- the sites that are kept, before they are sorted
abbrev pub kept_nodes : Layout → Bagging → ℕ → ℕ → ℕ → ℕ → List Site
kept_nodes T b n i low high =
    nodes_in (apart low high) (not_leading low (folded b i (peaks_of T n)) ++ up_to high (unfolded b i (peaks_of T n)))

pub nodes_aligned : (T : Layout) → Laws T.shape → (b : Bagging) (n i low high : ℕ)
    → AllSites IsAlignedNode (kept_nodes T b n i low high)
nodes_aligned T L b n i low high =
    let ks = T.shape.peaks n in
    let Q : Peak → Type 0 = λ p. p.first % 2 ^ p.height ≡ 0 in
    let all : AllPeaks Q (peaks_of T n) =
    all_weaker _ Q (λ p u. u.0) (peaks_of T n) (peaks_under ks ks 0 (L.aligned n) (λ a k i. i)) in
    let parts = all_folded Q b i (peaks_of T n) all in
    let ns = not_leading low (folded b i (peaks_of T n)) in
    let us = up_to high (unfolded b i (peaks_of T n)) in
    aligned_over (apart low high) (ns ++ us)
    (all_joined Q ns us (all_not_leading low Q _ parts.0) (all_up_to high Q _ parts.1))

pub kept_aligned : (T : Layout) → Laws T.shape → (b : Bagging) (n i low high : ℕ)
    → AllSites IsAlignedNode (kept_sites T b n i low high)
kept_aligned T L b n i low high =
    all_sorted IsAlignedNode T (kept_nodes T b n i low high) (nodes_aligned T L b n i low high)

module _ (T : Layout) (L : Laws T.shape) where
  module _ (f : Site → List ℕ) where
    -- at a site that is there
    pub entry_there : (ss : List Site) → AllSites IsAlignedNode ss → (s : Site) → IsAlignedNode s → 1 ≤ times s ss
        → entry_at (position_of T s) (entries T f ss) ≡ Some (f s)
    entry_there [] al s a l = absurd (omega arith)
    entry_there (t ∷ ts) al s a l = go (eqb (position_of T t) (position_of T s)) refl (entry_there ts al.1 s a)
      where
        go : (c : Bool) → eqb (position_of T t) (position_of T s) ≡ c
            → (1 ≤ times s ts → entry_at (position_of T s) (entries T f ts) ≡ Some (f s))
            → (if c then Some (f t) else entry_at (position_of T s) (entries T f ts)) ≡ Some (f s)
        go true e rest = ap (λ x. Some (f x)) (one_place T L t s al.0 a (eqb-true (position_of T t) (position_of T s) e))
        go false e rest = elim (tells (same_site t s)) [
          | inl c ↦
              absurd (let same : position_of T t ≡ position_of T s = ap (position_of T) (same_site-eq t s c) in let yes_it : eqb (position_of T t) (position_of T s) ≡ true = eq-eqb (position_of T t) (position_of T s) same in cc)
          | inr c ↦ let z : one_if (same_site t s) ≡ 0 = ap one_if c in rest (omega arith)
        ]

    -- an entry is that of a site there
    pub entry_of : (ss : List Site) (p : ℕ) (x : List ℕ) → entry_at p (entries T f ss) ≡ Some x
        → AllSites IsAlignedNode ss → (s : Site) × IsAlignedNode s × (position_of T s ≡ p) × (x ≡ f s)
    entry_of [] p x e al = cc
    entry_of (s ∷ ss) p x e al = go (eqb (position_of T s) p) refl e (λ d. entry_of ss p x d al.1)
      where
        go : (c : Bool) → eqb (position_of T s) p ≡ c → (if c then Some (f s) else entry_at p (entries T f ss)) ≡ Some x
            → (entry_at p (entries T f ss) ≡ Some x → (s : Site) × IsAlignedNode s × (position_of T s ≡ p) × (x ≡ f s))
            → (s : Site) × IsAlignedNode s × (position_of T s ≡ p) × (x ≡ f s)
        go true d e rest = let same : x ≡ f s = cc in (s, al.0, eqb-true (position_of T s) p d, same)
        go false d e rest = rest e
