-- What the answers of an extracting check mean.
use Rattle.std.proofs.Common.{◌≡◌, ◌≢◌, ℕ, ◌+◌, ◌<◌, ◌↔◌, Bool, true, false, not, inl, inr, List, [], length, map, Some, None, refl, sym, ap, ◌∙◌, arith, subst}
use Rattle.std.specs.List.Sorted.{IsStrictlyIncreasing}
use Rattle.storage_codec.specs.Digests.{HashFunction, IsSized}
use Rattle.storage_merkle.specs.Shape.{Laws}
use Rattle.storage_merkle.specs.Laws.Shape.{no_peaks}
use Rattle.storage_merkle.specs.declared.merkle.bagging.Bagging.{Bagging}
use Rattle.storage_merkle.specs.Trees.{Layout, Content, empty_root}
use Rattle.storage_merkle.specs.RangeProofs.{Proof, AreDigests, CountsFit, IsEmptyProof, IsAccepted}
use Rattle.storage_merkle.specs.Checks.{IsRecomputed}
use Rattle.storage_merkle.specs.Extracted.{AreHandedOut, Fits, extracted}
use Rattle.storage_merkle.proofs.Siblings.{not_both}
use Rattle.storage_merkle.proofs.Extracted.{extracted_true, extracted_ascend, no_entries}

module _ (h : HashFunction) (T : Layout) (b : Bagging) (proof : Proof) (start : ℕ) (claim : Content)
    (root : List ℕ) where
  -- what is handed out
  pub handed : (d : ℕ) → IsSized d h → Laws T.shape → AreDigests d proof.digests
      → IsAccepted h T b proof start claim root → (v : List (ℕ × List ℕ)) → v ≡ extracted h T b proof start claim
      → AreHandedOut d h T b proof start claim root v
  handed d sized L wide accepted v e = record {
    accepted = accepted;
    all = e;
    are_true = extracted_true d h T b proof start claim root sized L wide accepted;
    ascending = subst (λ (w : List (ℕ × List ℕ)). IsStrictlyIncreasing (map (λ x. x.0) w)) (sym e)
        (extracted_ascend h T b proof start claim L);
  }

  pub handed_none : (d : ℕ) → IsSized d h → Laws T.shape → AreDigests d proof.digests
      → IsEmptyProof h T b proof start claim × (empty_root h T b ≡ root) → (v : List (ℕ × List ℕ)) → v ≡ []
      → AreHandedOut d h T b proof start claim root v
  handed_none d sized L wide ok v e = handed d sized L wide (inr ok) v (e
      ∙ sym (no_entries T _ proof.leaves start (start + length claim.elements) (no_peaks T.shape L) ok.0.no_leaves))

  pub handed_some : (d : ℕ) → IsSized d h → Laws T.shape → AreDigests d proof.digests → (x : List ℕ)
      → IsRecomputed h T b proof start claim (Some x) → x ≡ root → (v : List (ℕ × List ℕ))
      → v ≡ extracted h T b proof start claim → AreHandedOut d h T b proof start claim root v
  handed_some d sized L wide x r ex v e = handed d sized L wide (inl (r.0, sym r.1 ∙ ex)) v e

  -- why nothing is
  not_none : 0 < length claim.elements → IsEmptyProof h T b proof start claim → ⊥
  not_none some ok = omega (arith, ap length ok.none)

  not_some : claim.elements ≡ [] → CountsFit h T b proof start claim → ⊥
  not_some none ok = let some = ok.some in omega (arith, ap length none)

  pub misfit : 0 < length claim.elements → IsRecomputed h T b proof start claim None → Fits h T b proof start claim → ⊥
  misfit some r fits = elim fits [ inl ok ↦ r ok | inr ok ↦ not_none some ok ]

  pub other_root : 0 < length claim.elements → (x : List ℕ) → IsRecomputed h T b proof start claim (Some x) → x ≢ root
      → Fits h T b proof start claim × (IsAccepted h T b proof start claim root → ⊥)
  other_root some x r ne =
      (inl r.0, λ accepted. elim accepted [ inl ok ↦ ne (r.1 ∙ ok.1) | inr ok ↦ not_none some ok.0 ])

  pub misfit_none : claim.elements ≡ [] → (IsEmptyProof h T b proof start claim → ⊥) → Fits h T b proof start claim → ⊥
  misfit_none none ne fits = elim fits [ inl ok ↦ not_some none ok | inr ok ↦ ne ok ]

  pub other_root_none : claim.elements ≡ [] → IsEmptyProof h T b proof start claim → empty_root h T b ≢ root
      → Fits h T b proof start claim × (IsAccepted h T b proof start claim root → ⊥)
  other_root_none none ok ne = (inr ok, λ accepted. elim accepted [ inl is ↦ not_some none is.0 | inr is ↦ ne is.1 ])

-- digests differ exactly where their bytes do
pub differ : {D : Type 0} (eq : D → D → Bool) (text : D → List ℕ) → ((x y : D) → (eq x y ≡ true) ↔ (text x ≡ text y))
    → (x y : D) → true ≡ not (eq x y) → text x ≢ text y
differ eq text same x y e f = let t : eq x y ≡ true = (same x y).1 f in not_both (not (eq x y)) (sym e) (ap not t)

pub alike : {D : Type 0} (eq : D → D → Bool) (text : D → List ℕ) → ((x y : D) → (eq x y ≡ true) ↔ (text x ≡ text y))
    → (x y : D) → false ≡ not (eq x y) → text x ≡ text y
alike eq text same x y e = (same x y).0 (not_not (eq x y) e)
  where
    not_not : (b : Bool) → false ≡ not b → b ≡ true
    not_not true f = refl
    not_not false f = cc
