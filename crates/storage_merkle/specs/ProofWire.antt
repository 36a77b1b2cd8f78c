-- What range proofs are written as, and what reading answers.
use Rattle.std.specs.Prelude.{ℕ, zero, suc, ◌<◌, ◌≤◌, ◌^◌, List, [], ◌∷◌, ◌++◌, length, Ok, Err, nat_lt, if◌then◌else◌}
use Rattle.storage_codec.specs.Codec.{Answer, mapped, front_at, varint_at}
use Rattle.storage_codec.specs.Faults.{◌>>=◌, InvalidLength}
use Rattle.storage_codec.specs.Parts.{varint_text}
use Rattle.storage_merkle.specs.Wire.{location_at}
use Rattle.storage_merkle.specs.RangeProofs.{Proof}
use Rattle.storage_merkle.specs.Shape.{max_leaves}

-- digests one after another
abbrev pub joined_text : List (List ℕ) → List ℕ
joined_text [] = []
joined_text (x ∷ xs) = x ++ joined_text xs

-- so many digests of d bytes
abbrev pub digests_at : ℕ → ℕ → List ℕ → Answer (List (List ℕ))
digests_at d zero bytes = Ok ([], bytes)
digests_at d (suc n) bytes = front_at d bytes >>= λ x. mapped (λ xs. x.0 ∷ xs) (digests_at d n x.1)

-- leaves, inactive peaks, the number of digests, the digests
abbrev pub proof_text : Proof → List ℕ
proof_text p = varint_text p.leaves
    ++ (varint_text p.inactive ++ (varint_text (length p.digests) ++ joined_text p.digests))

-- the same with at most so many digests of d bytes
abbrev pub proof_at : ℕ → ℕ → List ℕ → Answer Proof
proof_at d most bytes =
    location_at bytes >>= λ leaves. varint_at leaves.1 >>= λ inactive. varint_at inactive.1 >>= λ count.
    if nat_lt most count.0 then Err (InvalidLength count.0)
    else mapped (λ ds. record { leaves = leaves.0; inactive = inactive.0; digests = ds }) (digests_at d count.0 count.1)

-- a proof that a reader of at most so many digests admits
pub record IsAdmitted (most : ℕ) (p : Proof) : Type 0 where
  pub leaves : p.leaves ≤ max_leaves
  pub inactive : p.inactive < 2 ^ 64
  pub count : length p.digests < 2 ^ 64
  pub few : length p.digests ≤ most
