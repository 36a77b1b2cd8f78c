-- What bytes are read as that are to prove something of a range, and what a check of them answers.
use Rattle.std.proofs.Common.{◌≡◌, ℕ, ◌↔◌, Bool, List, [], Result, Ok, Err, ap, subst, ◌∙◌, append-nil, inl, inr}
use Rattle.std.specs.Bool.{IsTrue}
use Rattle.std.specs.Result.{IfOk}
use Rattle.storage_codec.specs.Digests.{HashFunction}
use Rattle.storage_codec.specs.Parts.{IsBytes}
use Rattle.storage_codec.specs.Codec.{whole}
use Rattle.storage_codec.specs.Laws.Codec.{whole_ok}
use Rattle.storage_current.specs.Snapshots.{Grafting, RangeProof}
use Rattle.storage_current.specs.CurrentProofs.{IsCurrent}
use Rattle.storage_current.specs.CurrentSoundness.{MeansCurrent}
use Rattle.storage_current.specs.CurrentWire.{range_proof_at, range_proof_text}
use Rattle.storage_current.specs.Laws.CurrentWire.{current_back}
use Rattle.commonware_storage.specs.LightRanges.{IsAcceptedRange, IsRangeProof, IsTrueRange}
use Rattle.commonware_storage.proofs.KeyAnswers.{one_read}

module _ (h : HashFunction) (g : Grafting) (there : Bool) (d most start : ℕ) (bytes : List ℕ)
    (operations chunks : List (List ℕ)) (root : List ℕ) (p : RangeProof)
    (read : whole (range_proof_at there d most bytes) ≡ Ok (p, [])) {E : Type 0} where
  -- what the check of the bytes answers, from what the check of the proof that they are read as does
  pub range_exactly : (answer : Result Bool E)
      → IfOk answer (λ yes. IsTrue yes ↔ IsCurrent h g p start operations chunks root)
      → IfOk answer (λ yes. IsTrue yes ↔ IsAcceptedRange h g there d most start bytes operations chunks root)
  range_exactly (Err e) exact = tt
  range_exactly (Ok b) exact = (
    λ t. record { proof = p; read = read; accepted = exact.0 t },
    λ a. exact.1 (subst (λ (q : RangeProof). IsCurrent h g q start operations chunks root) (one_read a.read read)
        a.accepted),
  )

  -- what its yes means
  pub range_meaning : IsBytes bytes → (answer : Result Bool E)
      → IfOk answer (λ yes. IsTrue yes → MeansCurrent h g p start operations chunks root)
      → IfOk answer (λ yes. IsTrue yes → IsTrueRange h g there d most start bytes operations chunks root)
  range_meaning fits (Err e) meaning = tt
  range_meaning fits (Ok b) meaning = λ t.
      let text : bytes ≡ range_proof_text there p = current_back there d most bytes p [] fits
      (whole_ok (range_proof_at there d most bytes) p [] read).0 ∙ append-nil (range_proof_text there p) in
      record {
        proof = p;
        read = read;
        meaning = λ s snapshot same. elim (meaning t s snapshot same) [
          | inl both ↦ inl (both.1, text ∙ ap (range_proof_text there) both.0)
          | inr crossed ↦ inr crossed
        ];
      }

-- and what the bytes are
pub range_whole : (there : Bool) (d most : ℕ) (bytes : List ℕ) (p : RangeProof)
    → whole (range_proof_at there d most bytes) ≡ Ok (p, []) → {E : Type 0} (answer : Result Bool E)
    → IfOk answer (λ yes. IsTrue yes → IsRangeProof there d most bytes)
range_whole there d most bytes p read (Err e) = tt
range_whole there d most bytes p read (Ok b) = λ t. record { proof = p; read = read }
