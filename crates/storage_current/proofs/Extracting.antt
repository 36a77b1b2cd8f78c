-- What an extracting check hands out, from what its steps answer.
use Rattle.std.proofs.Common.{◌≡◌, ℕ, List, length, map, Bool, true, false, not, ◌⊎◌, inl, inr, refl, sym, ◌∙◌, subst, arith, Result, Ok, Err}
use Rattle.std.specs.List.Sorted.{IsStrictlyIncreasing}
use Rattle.std.specs.Prelude.{MatchResult}
use Rattle.std.specs.Result.{IfOk}
use Rattle.storage_codec.specs.Digests.{HashFunction, IsSized}
use Rattle.storage_merkle.specs.Shape.{Laws}
use Rattle.storage_merkle.specs.declared.merkle.bagging.Bagging.TheVariants.{BackwardFold}
use Rattle.storage_merkle.specs.declared.merkle.error.Error.{Error}
use Rattle.storage_merkle.specs.Extracted.{ExtractedDigestsAreTrue, ExtractedPositionsAscend}
use Rattle.storage_current.specs.CurrentProofs.{IsCurrent, claim}
use Rattle.storage_current.specs.CurrentSoundness.{HasDigests}
use Rattle.storage_current.specs.ExtractedCurrent.{AreExtractedCurrent, ExtractedCurrentDigestsAreTrue, IsNotExtracted, MeansExtracted, extracted_current}
use Rattle.storage_current.specs.Laws.Grafting.{aligned-le, chunk_apart}
use Rattle.storage_current.specs.Snapshots.{RangeProof, Grafting, aligned_of, canonical_root, content, height, view}
use Rattle.storage_current.proofs.RangeSound.{chunk-length, grafted_accepted, padded, same_parts, fewer, wider}
use Rattle.storage_current.proofs.Padding.{pad-length, same_extracted}

-- each digest is the grafted view's
pub extracted_true : ExtractedDigestsAreTrue → ExtractedCurrentDigestsAreTrue
extracted_true law d h width sized g laws proof start operations chunks digests root current s snapshot same =
    let ok : IsCurrent h g proof start operations chunks (canonical_root h g s) =
    subst (λ (r : List ℕ). IsCurrent h g proof start operations chunks r) (sym same) current in
    elim (same_parts d h sized g proof start operations chunks s (omega (arith, width)) digests ok) [
      | inr c ↦ inr c
      | inl parts ↦
          let T = view g proof.range.leaves in
          let whole = padded d h sized g proof start operations chunks s in
          let accepted = grafted_accepted d h sized g proof start operations chunks s ok parts in
          let filled = same_extracted h T proof.range start operations (claim h g proof start operations chunks).chunk
          whole.chunk (fewer d h sized g proof start operations chunks s ok) in
          elim (law d h T BackwardFold proof.range start whole _ sized laws digests.range accepted g.bytes
          (λ i. (view g i).grafted) refl (chunk_apart g ok.size d width) (λ a k o g' m i c. pad-length g.bytes _)
          (content h g s) (aligned_of h g s) (λ a k o g' m i c. chunk-length g.bytes s.bits _) snapshot.few
          (aligned-le g.shape (length s.operations) s.floor (height g)) refl) [
            | inr c ↦ inr (wider d h sized g proof start operations chunks s ok c)
            | inl e ↦ inl (filled ∙ e)
          ]
    ]

-- ---- the answers

-- digests that are not told apart, and digests that are
pub equal : (b : Bool) → false ≡ not b → b ≡ true
equal true e = refl
equal false e = cc

pub unequal : (b : Bool) → true ≡ not b → b ≡ true → ⊥
unequal true e f = cc
unequal false e f = cc

module _ {V F : Type 0} (h : HashFunction) (g : Grafting) (proof : RangeProof) (start : ℕ) (root : List ℕ)
    (digests : V → List (ℕ × List ℕ)) (answer : Result V (Error F)) where
  -- digests are handed out just as the check says
  abbrev pub Told : List (List ℕ) → List (List ℕ) → Type 0
  Told operations chunks = MatchResult answer (λ v. IsCurrent h g proof start operations chunks root × (digests v
      ≡ extracted_current h g proof start operations chunks)) (IsNotExtracted h g proof start operations chunks root)

  pub told : {xs ys cs ds : List (List ℕ)} → xs ≡ ys → cs ≡ ds → Told xs cs → Told ys ds
  told {xs} {ys} {cs} {ds} e f t = subst (Told ys) f (subst (λ zs. Told zs cs) e t)

pub handed : {V F : Type 0} (h : HashFunction) (g : Grafting) → Laws g.shape → (proof : RangeProof) (start : ℕ)
    (operations chunks : List (List ℕ)) (root : List ℕ) (digests : V → List (ℕ × List ℕ)) (answer : Result V (Error F))
    → ExtractedPositionsAscend → Told h g proof start root digests answer operations chunks
    → IfOk answer (λ v. AreExtractedCurrent h g proof start operations chunks root (digests v))
handed h g laws proof start operations chunks root digests (Ok v) law t = record {
  accepted = t.0;
  all = t.1;
  ascending = subst (λ (es : List (ℕ × List ℕ)). IsStrictlyIncreasing (map (λ e. e.0) es)) (sym t.1)
      (law h (view g proof.range.leaves) BackwardFold proof.range start (claim h g proof start operations chunks) laws);
}
handed h g laws proof start operations chunks root digests (Err e) law t = tt

pub means : ExtractedCurrentDigestsAreTrue → (d : ℕ) (h : HashFunction) → (d ≡ 32) ⊎ (d ≡ 64) → IsSized d h
    → {V F : Type 0} (g : Grafting) → Laws g.shape
    → (proof : RangeProof) (start : ℕ) (operations chunks : List (List ℕ)) → HasDigests d proof
    → (root : List ℕ) (digests : V → List (ℕ × List ℕ)) (answer : Result V (Error F))
    → Told h g proof start root digests answer operations chunks
    → IfOk answer (λ v. MeansExtracted h g proof start operations chunks root (digests v))
means law d h wide sized g laws proof start operations chunks has root digests (Ok v) t =
    subst (λ (es : List (ℕ × List ℕ)). MeansExtracted h g proof start operations chunks root es) (sym t.1)
    (law d h wide sized g laws proof start operations chunks has root t.0)
means law d h wide sized g laws proof start operations chunks has root digests (Err e) t = tt
