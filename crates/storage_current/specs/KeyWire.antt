-- What proofs about keys are written as, and what reading answers.
use Rattle.std.specs.Prelude.{ℕ, ◌==◌, Bool, List, ◌∷◌, ◌++◌, Err, IfSome, option_map, if◌then◌else◌}
use Rattle.storage_codec.specs.Codec.{Answer, byte_at, mapped, option_at}
use Rattle.storage_codec.specs.Faults.{◌>>=◌, InvalidEnum}
use Rattle.storage_codec.specs.Parts.{option_text}
use Rattle.storage_current.specs.Snapshots.{OperationProof}
use Rattle.storage_current.specs.CurrentWire.{operation_text}
use Rattle.storage_current.specs.KeyProofs.{Exclusion, KeyValue, Commit}
use Rattle.storage_current.specs.CurrentSoundness.{HasDigests}

-- one part, and then another
abbrev pub pair_at : {A B : Type 0} → (List ℕ → Answer A) → (List ℕ → Answer B) → List ℕ → Answer (A × B)
pair_at first second bytes = first bytes >>= λ a. mapped (λ b. (a.0, b)) (second a.1)

-- 00, the operation proof, the update; or 01, the operation proof, the value or none
abbrev pub exclusion_text : {U V : Type 0} → Bool → (U → List ℕ) → (V → List ℕ) → Exclusion U V → List ℕ
exclusion_text has_pending update value (KeyValue proof u) = 0 ∷ (operation_text has_pending proof ++ update u)
exclusion_text has_pending update value (Commit proof v) = 1 ∷ (operation_text has_pending proof ++ option_text value v)

abbrev pub exclusion_at : {U V : Type 0} → (List ℕ → Answer OperationProof) → (List ℕ → Answer U) → (List ℕ → Answer V)
    → List ℕ → Answer (Exclusion U V)
exclusion_at proof update value bytes = byte_at bytes >>= λ tag.
    if tag.0 == 0 then mapped (λ x. KeyValue x.0 x.1) (pair_at proof update tag.1)
    else if tag.0 == 1 then mapped (λ x. Commit x.0 x.1) (pair_at proof (option_at value) tag.1)
    else Err (InvalidEnum tag.0)

-- the same exclusion, its update and its value seen by two functions
abbrev pub exclusion_map : {U V X Y : Type 0} → (U → X) → (V → Y) → Exclusion U V → Exclusion X Y
exclusion_map update value (KeyValue proof u) = KeyValue proof (update u)
exclusion_map update value (Commit proof v) = Commit proof (option_map value v)

-- an exclusion whose parts a reader admits
abbrev pub IsAdmittedExclusion : {U V : Type 0} → (OperationProof → Type 0) → (U → Type 0) → (V → Type 0)
    → Exclusion U V → Type 0
IsAdmittedExclusion proof update value (KeyValue p u) = proof p × update u
IsAdmittedExclusion proof update value (Commit p v) = proof p × IfSome v value

-- an operation proof with digests of d bytes, of which P holds
abbrev pub WithDigests : ℕ → (OperationProof → Type 0) → OperationProof → Type 0
WithDigests d P p = HasDigests d p.range × P p
