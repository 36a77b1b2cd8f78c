-- What the answers of a pinned check mean.
use Rattle.std.proofs.Common.{◌≡◌, ℕ, zero, suc, ◌+◌, ◌<◌, ◌↔◌, inl, inr, List, [], length, take, drop, Result, Ok, Err, IfOk, Bool, IsTrue, ◌==◌, eqb-true, refl, sym, ap, ap₂, ◌∙◌, arith, subst}
use Rattle.storage_codec.specs.Digests.{HashFunction, IsSized}
use Rattle.storage_merkle.specs.Shape.{Shape, Laws}
use Rattle.storage_merkle.specs.Laws.Shape.{no_peaks}
use Rattle.storage_merkle.specs.declared.merkle.bagging.Bagging.{Bagging}
use Rattle.storage_merkle.specs.declared.merkle.bagging.Bagging.TheVariants.{ForwardFold, BackwardFold}
use Rattle.storage_merkle.specs.Trees.{Layout, Content, Peak, listed, ungrafted, places, folded, unfolded}
use Rattle.storage_merkle.specs.RangeProofs.{Proof, AreDigests, CountsFit, IsAccepted, check_values, range_sites, sites, sites_over}
use Rattle.storage_merkle.specs.Pinned.{peak_sites, pinned_sites, recomputed, Match, IsPinnedAccepted, IsPinnedProved}
use Rattle.storage_merkle.specs.PinnedParts.{AgreesWith}
use Rattle.storage_merkle.proofs.Pinned.Sound.{pinned_digests_sound}

pub if_ok : {A E : Type 0} (P Q : A → Type 0) (r : Result A E) → ((a : A) → P a → Q a) → IfOk r P → IfOk r Q
if_ok P Q (Ok a) f p = f a p
if_ok P Q (Err e) f p = tt

none_folded : (b : Bagging) (i : ℕ) → folded b i [] ≡ []
none_folded ForwardFold i = refl
none_folded BackwardFold i = go i
  where
    go : (j : ℕ) → ◌≡◌ {A = List Peak} (take j []) []
    go zero = refl
    go (suc j) = refl

none_unfolded : (b : Bagging) (i : ℕ) → unfolded b i [] ≡ []
none_unfolded ForwardFold i = refl
none_unfolded BackwardFold i = go i
  where
    go : (j : ℕ) → ◌≡◌ {A = List Peak} (drop j []) []
    go zero = refl
    go (suc j) = refl

-- a tree of no leaves has no sites
no_sites : (T : Layout) → Laws T.shape → (low high : ℕ) (b : Bagging) (n i : ℕ) → n ≡ 0 → sites T low high b n i ≡ []
no_sites T L low high b n i z =
    let none : places 0 (T.shape.peaks n) ≡ [] =
    ap (λ m. places 0 (T.shape.peaks m)) z ∙ ap (places 0) (no_peaks T.shape L) in
    ap₂ (sites_over T low high) (ap (folded b i) none ∙ none_folded b i) (ap (unfolded b i) none ∙ none_unfolded b i)

module _ (h : HashFunction) (T : Layout) (b : Bagging) (proof : Proof) (start : ℕ) (claim : Content)
    (pinned : List (List ℕ)) (root : List ℕ) (accepted : IsAccepted h T b proof start claim root) where
  abbrev Pinned : Type 0
  Pinned = IsPinnedAccepted h T b proof start claim pinned root

  -- of no elements there are no pinned digests
  pub nothing_pinned : Laws T.shape → claim.elements ≡ [] → (answer : Bool) → (answer ≡ (length pinned == 0))
      → IsTrue answer ↔ Pinned
  nothing_pinned L none answer e =
      elim accepted [
        | inl fit ↦ absurd (let f = fit.0 in let some = f.some in omega (arith, ap length none))
        | inr own ↦
            let o = own.0 in
            let peaks : pinned_sites h T b proof start claim pinned ≡ [] =
            ap (λ s. peak_sites (places 0 (T.shape.peaks s))) o.no_start
            ∙ ap (λ ks. peak_sites (places 0 ks)) (no_peaks T.shape L) in
            let nothing : range_sites h T b proof start claim ≡ [] =
            no_sites T L start (start + length claim.elements) b proof.leaves proof.inactive o.no_leaves in
            let again = recomputed h T b proof start claim pinned in
            let values = check_values h T b proof start claim in (
              λ y.
                  (let zero : length pinned ≡ 0 = eqb-true (length pinned) 0 (sym e ∙ y) in record { accepted = inr own; count = zero ∙ sym (ap length peaks); same = subst (Match start values.digest again) (sym nothing) tt }),
              λ p. (let count = p.count in let zero : length pinned ≡ 0 = count ∙ ap length peaks in
                  e ∙ ap (λ m. m == 0) zero),
            )
      ]

  pub counts_fit : 0 < length claim.elements → CountsFit h T b proof start claim
  counts_fit some = elim accepted [
    | inl fit ↦ fit.0
    | inr own ↦ absurd (let o = own.0 in omega (arith, ap length o.none))
  ]

  pub agreeing_pinned : (answer : Bool) → (IsTrue answer ↔ AgreesWith h T b proof start claim pinned)
      → IsTrue answer ↔ Pinned
  agreeing_pinned answer i = (
    λ y. (let a = i.0 y in record { accepted = accepted; count = a.count; same = a.same }),
    λ p. i.1 (record { count = p.count; same = p.same }),
  )

-- what is accepted is as claimed in each list with that root
pub pinned_proved : (d : ℕ) (h : HashFunction) → IsSized d h → (S : Shape) → Laws S → (T : Layout) → T ≡ ungrafted S
    → (chunk : ℕ → List ℕ) → chunk ≡ (λ a. []) → (b : Bagging) (proof : Proof) (start : ℕ)
    (elements pinned : List (List ℕ)) (root : List ℕ) → AreDigests d proof.digests → AreDigests d pinned
    → IsPinnedAccepted h T b proof start (record { elements = elements; chunk = chunk }) pinned root
    → IsPinnedProved h S b proof start elements pinned root
pinned_proved d h sized S L T plain chunk empty b proof start elements pinned root wide wide' ok list inactive
    few peaks at =
    let one : IsPinnedAccepted h (ungrafted S) b proof start
    (record { elements = elements; chunk = chunk }) pinned root = subst (λ U.
    IsPinnedAccepted h U b proof start (record { elements = elements; chunk = chunk }) pinned root) plain ok in
    let two : IsPinnedAccepted h (ungrafted S) b proof start (listed elements) pinned root =
    subst (λ (k : ℕ → List ℕ). IsPinnedAccepted h (ungrafted S) b proof start
    (record { elements = elements; chunk = k }) pinned root) empty one in
    pinned_digests_sound d h sized S L b proof start elements pinned wide wide' list inactive few peaks
    (subst (IsPinnedAccepted h (ungrafted S) b proof start (listed elements) pinned) (sym at) two)
