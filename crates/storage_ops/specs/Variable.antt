-- Operations with no padding.
use Rattle.std.specs.Prelude.{◌==◌, ℕ, List, [], ◌∷◌, ◌++◌, Option, Some, None, Err, if◌then◌else◌}
use Rattle.storage_codec.specs.Faults.{◌>>=◌, InvalidEnum}
use Rattle.storage_codec.specs.Parts.{varint_text}
use Rattle.storage_codec.specs.Codec.{Answer, mapped, byte_at, option_at}
use Rattle.storage_merkle.specs.Wire.{location_at}
use Rattle.storage_ops.specs.Operations.{OperationView, Delete, Update, CommitFloor}

-- 01 and the value, or 00
abbrev pub metadata_text : Option (List ℕ) → List ℕ
metadata_text None = 0 ∷ []
metadata_text (Some text) = 1 ∷ text

-- the tag and the payload, from the bytes of the parts: a floor is a varint
abbrev pub variable_operation_text : OperationView (List ℕ) (List ℕ) (List ℕ) → List ℕ
variable_operation_text (Delete k) = 0xD1 ∷ k
variable_operation_text (Update u) = 0xD2 ∷ u
variable_operation_text (CommitFloor v n) = 0xD3 ∷ metadata_text v ++ varint_text n

-- an optional value, and a location
abbrev pub variable_commit_at : {K U V : Type 0} → (List ℕ → Answer V) → List ℕ → Answer (OperationView K U V)
variable_commit_at value bytes = option_at value bytes >>= λ v. mapped (λ n. CommitFloor v.0 n) (location_at v.1)

-- what follows the tag
abbrev pub variable_payload_at : {K U V : Type 0} → (List ℕ → Answer K) → (List ℕ → Answer U) → (List ℕ → Answer V) → ℕ
    → List ℕ → Answer (OperationView K U V)
variable_payload_at key update value tag rest =
    if tag == 0xD1 then mapped Delete (key rest)
    else if tag == 0xD2 then mapped Update (update rest)
    else if tag == 0xD3 then variable_commit_at value rest
    else Err (InvalidEnum tag)

-- an operation: the tag, and what follows it
abbrev pub variable_operation_at : {K U V : Type 0} → (List ℕ → Answer K) → (List ℕ → Answer U) → (List ℕ → Answer V)
    → List ℕ → Answer (OperationView K U V)
variable_operation_at key update value bytes = byte_at bytes >>= λ tag. variable_payload_at key update value tag.0 tag.1
