-- Operations that are filled up with zeros to one size.
use Rattle.std.specs.Prelude.{◌==◌, ℕ, ◌+◌, ◌-◌, List, ◌∷◌, ◌++◌, length, max, replicate, Option, Some, None, Ok, Err, nat_lt, codes, if◌then◌else◌}
use Rattle.std.specs.Int.{w64, to_be_bytes}
use Rattle.storage_codec.specs.Faults.{◌>>=◌, EndOfBuffer, InvalidEnum, Invalid}
use Rattle.storage_codec.specs.Codec.{Answer, mapped, byte_at, bool_at, u64_at}
use Rattle.storage_merkle.specs.Shape.{max_leaves}
use Rattle.storage_ops.specs.Operations.{OperationView, Delete, Update, CommitFloor}
use Rattle.storage_codec.specs.Padding.{zeros_at}

-- the greatest size of an update, a commit with a value, and a deletion, each with its tag
abbrev pub fixed_size : ℕ → ℕ → ℕ → ℕ
fixed_size key update value = max (max (1 + update) (1 + 1 + value + 8)) (1 + key)

-- 01 and the value, or 00 and as many zeros
abbrev pub presence_text : ℕ → Option (List ℕ) → List ℕ
presence_text value None = 0 ∷ replicate value 0
presence_text value (Some text) = 1 ∷ text

-- the tag, the payload, and zeros up to the size, from the sizes and the bytes of the parts
abbrev pub fixed_operation_text : ℕ → ℕ → ℕ → OperationView (List ℕ) (List ℕ) (List ℕ) → List ℕ
fixed_operation_text ks us vs (Delete k) = 0xD1 ∷ k ++ replicate (fixed_size ks us vs - (1 + ks)) 0
fixed_operation_text ks us vs (Update u) = 0xD2 ∷ u ++ replicate (fixed_size ks us vs - (1 + us)) 0
fixed_operation_text ks us vs (CommitFloor v n) = 0xD3 ∷ presence_text vs v ++ to_be_bytes w64 n
    ++ replicate (fixed_size ks us vs - (10 + vs)) 0

-- a truth value, and then the value or zeros
abbrev pub presence_at : {V : Type 0} → (List ℕ → Answer V) → ℕ → List ℕ → Answer (Option V)
presence_at value vs bytes = bool_at bytes >>= λ there.
    if there.0 then mapped Some (value there.1) else mapped (λ _. None) (zeros_at vs there.1)

-- a floor of at most 2^62
abbrev pub floor_at : List ℕ → Answer ℕ
floor_at bytes = u64_at bytes >>= λ n.
    if nat_lt max_leaves n.0 then Err (Invalid (codes "storage::qmdb::operation::commit") (codes "commit floor location overflow")) else Ok n

-- a value or none, and a floor
abbrev pub commit_payload_at : {K U V : Type 0} → (List ℕ → Answer V) → ℕ → List ℕ → Answer (OperationView K U V)
commit_payload_at value vs bytes = presence_at value vs bytes >>= λ v. mapped (λ n. CommitFloor v.0 n) (floor_at v.1)

-- a payload, and then n zeros
abbrev pub padded : {W : Type 0} → ℕ → Answer W → Answer W
padded n answer = answer >>= λ x. mapped (λ _. x.0) (zeros_at n x.1)

-- what follows the tag
abbrev pub fixed_payload_at : {K U V : Type 0} → (List ℕ → Answer K) → (List ℕ → Answer U) → (List ℕ → Answer V) → ℕ → ℕ
    → ℕ → ℕ → List ℕ → Answer (OperationView K U V)
fixed_payload_at key update value ks us vs tag rest =
    if tag == 0xD1 then padded (fixed_size ks us vs - (1 + ks)) (mapped Delete (key rest))
    else if tag == 0xD2 then padded (fixed_size ks us vs - (1 + us)) (mapped Update (update rest))
    else if tag == 0xD3 then padded (fixed_size ks us vs - (10 + vs)) (commit_payload_at value vs rest)
    else Err (InvalidEnum tag)

-- an operation: at least its size of bytes, the tag, and what follows it
abbrev pub fixed_operation_at : {K U V : Type 0} → (List ℕ → Answer K) → (List ℕ → Answer U) → (List ℕ → Answer V) → ℕ
    → ℕ → ℕ → List ℕ → Answer (OperationView K U V)
fixed_operation_at key update value ks us vs bytes =
    if nat_lt (length bytes) (fixed_size ks us vs) then Err EndOfBuffer
    else byte_at bytes >>= λ tag. fixed_payload_at key update value ks us vs tag.0 tag.1
