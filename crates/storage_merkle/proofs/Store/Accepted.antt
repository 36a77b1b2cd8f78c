-- The store that an accepted proof gives.
use Rattle.std.proofs.Common.{◌≡◌, ℕ, ◌+◌, List, [], ◌∷◌, ◌++◌, length, inl, inr, Option, Some, None, option_map, MatchOption, refl, sym, ap, ap₂, ◌∙◌, arith, subst}
use Rattle.std.specs.Option.{unwrap_or}
use Rattle.storage_codec.specs.Digests.{HashFunction, IsSized}
use Rattle.storage_merkle.specs.Shape.{Laws}
use Rattle.storage_merkle.specs.Laws.Shape.{no_peaks}
use Rattle.storage_merkle.specs.Calc.{Site, front, back}
use Rattle.storage_merkle.specs.declared.merkle.bagging.Bagging.{Bagging}
use Rattle.storage_merkle.specs.Trees.{Layout, Content, empty_root}
use Rattle.storage_merkle.specs.RangeProofs.{Proof, apart, look_up, range_sites, check_values, check_strings, AreDigests, IsEmptyProof, IsAccepted}
use Rattle.storage_merkle.specs.Checks.{IsRecomputed}
use Rattle.storage_merkle.specs.Extracted.{HoldsOfEach, entries, digest_at}
use Rattle.storage_merkle.specs.Stores.{Store, IsStoreOf, IsMadeOf, kept_sites, or_else, store_of}
use Rattle.storage_merkle.proofs.Store.Made.{made_of_accepted, stores_true, no_kept}

nothing_there : (none : List ℕ) (ss : List Site) (ds : List (List ℕ)) (s : Site) → ds ≡ [] → look_up none ss ds s ≡ none
nothing_there none [] ds s e = refl
nothing_there none (t ∷ ts) [] s e = refl
nothing_there none (t ∷ ts) (d ∷ ds) s e = cc

-- field by field
abbrev made_as : Bagging → ℕ → ℕ → ℕ → ℕ → List ℕ → List ℕ → List (ℕ × List ℕ) → Store
made_as b n i start past x y es = record {
  leaves = n;
  inactive = i;
  bagging = b;
  start = start;
  past = past;
  front_fold = x;
  back_fold = y;
  kept = es;
}

module _ (h : HashFunction) (T : Layout) (b : Bagging) (proof : Proof) (start : ℕ) (claim : Content) where
  pub store_is : (c : Bagging) (past : ℕ) (x y : List ℕ) (es : List (ℕ × List ℕ)) → c ≡ b
      → past ≡ start + length claim.elements → x ≡ (check_values h T b proof start claim).digest front
      → y ≡ (check_values h T b proof start claim).digest back
      → es ≡ entries T
      (digest_at h (check_values h T b proof start claim) T (apart start (start + length claim.elements)))
      (kept_sites T b proof.leaves proof.inactive start (start + length claim.elements))
      → made_as c proof.leaves proof.inactive start past x y es ≡ store_of h T b proof start claim
  store_is c past x y es ec ep ex ey ees =
      let n = proof.leaves in
      let i = proof.inactive in
      let v = check_values h T b proof start claim in
      let high = start + length claim.elements in
      ap₂ (λ d p. made_as d n i start p x y es) ec ep
      ∙ ap₂ (λ z w. made_as b n i start high z w es) ex ey
      ∙ ap (made_as b n i start high (v.digest front) (v.digest back)) ees

  module _ (root : List ℕ) (d : ℕ) (sized : IsSized d h) (L : Laws T.shape) (wide : AreDigests d proof.digests)
      (store : Store) where
    made : IsAccepted h T b proof start claim root → store ≡ store_of h T b proof start claim
        → IsMadeOf d h T b proof start claim root store
    made accepted e = record {
      accepted = accepted;
      all = e;
      of_trees = subst (λ s. HoldsOfEach d h T b proof.leaves start claim (check_strings h T b proof start claim) root
          (λ U content inactive. IsStoreOf h U s content inactive)) (sym e)
          (stores_true d h T b proof start claim root sized L wide accepted);
      of_own = λ content inactive is. subst (λ s. IsStoreOf h T s content inactive) (sym e)
          (made_of_accepted h T L b proof start claim content inactive is root accepted);
    }

    pub made_some : (x : List ℕ) → IsRecomputed h T b proof start claim (Some x) → x ≡ root
        → store ≡ store_of h T b proof start claim → IsMadeOf d h T b proof start claim root store
    made_some x r ex e = made (inl (r.0, sym r.1 ∙ ex)) e

    pub made_nothing : IsEmptyProof h T b proof start claim × (empty_root h T b ≡ root)
        → store ≡ made_as b 0 0 0 0 (h []) (h []) [] → IsMadeOf d h T b proof start claim root store
    made_nothing ok e =
        let o = ok.0 in
        let v = check_values h T b proof start claim in
        let high = start + length claim.elements in
        let ends : 0 ≡ high = omega (arith, o.no_start, ap length o.none) in
        let nothing : (s : Site) → h [] ≡ v.digest s =
        λ s. sym (nothing_there (h []) (range_sites h T b proof start claim) proof.digests s o.no_digests) in
        let kept : []
        ≡ entries T (digest_at h v T (apart start high)) (kept_sites T b proof.leaves proof.inactive start high) =
        sym (no_kept T b (digest_at h v T (apart start high)) proof.leaves proof.inactive start high
        (no_peaks T.shape L) o.no_leaves o.no_inactive) in
        made (inr ok) (e ∙ ap₂ (λ n i. made_as b n i 0 0 (h []) (h []) []) (sym o.no_leaves) (sym o.no_inactive)
        ∙ ap (λ s. made_as b proof.leaves proof.inactive s 0 (h []) (h []) []) (sym o.no_start)
        ∙ store_is b 0 (h []) (h []) [] refl ends (nothing front) (nothing back) kept)

-- what is there, else another
pub unwrapped : {D : Type 0} (text : D → List ℕ) (o : Option D) (d x : D) (none : List ℕ) → x ≡ unwrap_or o d
    → text d ≡ none → text x ≡ or_else none (option_map text o)
unwrapped text None d x none e n = ap text e ∙ n
unwrapped text (Some y) d x none e n = ap text e

-- what was kept is not lost
pub not_lost : {V X R : Type 0} (g : V → List X) (o : V) (m : Option V) (root : Option R) (r : R) (xs : List X) → root
    ≡ Some r → m ≡ None → MatchOption root (Unit {0}) (λ _. option_map g m ≡ option_map (λ w. g w ++ xs) (Some o)) → ⊥
not_lost g o m root r xs er em a =
    let b : option_map g m ≡ Some (g o ++ xs) =
    subst (λ q. MatchOption q (Unit {0}) (λ _. option_map g m ≡ option_map (λ w. g w ++ xs) (Some o))) er a in
    let d : None ≡ Some (g o ++ xs) = ap (option_map g) (sym em) ∙ b in
    cc
