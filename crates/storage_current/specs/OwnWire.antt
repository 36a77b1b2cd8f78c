-- A snapshot's own proofs, written and read again.
use Rattle.std.specs.Prelude.{◌≡◌, ℕ, ◌+◌, ◌^◌, ◌<◌, ◌≤◌, Bool, false, List, ◌++◌, length, Ok}
use Rattle.storage_codec.specs.Digests.{HashFunction, IsSized}
use Rattle.storage_merkle.specs.Shape.{Shape}
use Rattle.storage_current.specs.Snapshots.{Grafting, IsGrafting, Snapshot, IsSnapshot, own_range_proof, own_operation_proof}
use Rattle.storage_current.specs.CurrentWire.{range_proof_text, range_proof_at, operation_text, sized_operation_at, max_digests}

-- where a family has no pending chunk, each node comes with the last of its leaves
abbrev pub IsPrompt : Bool → Shape → Type 0
IsPrompt has_pending S = has_pending ≡ false → (a k : ℕ) → S.birth a k ≡ a + 2 ^ k

-- What a snapshot's own operation proof is written as is read again, by a reader of at most 128 digests, and what follows is left.
abbrev pub OwnOperationProofsAreReadAgain : Type 0
OwnOperationProofsAreReadAgain =
    (d : ℕ) (h : HashFunction) → IsSized d h → (g : Grafting) → IsGrafting g → (has_pending : Bool)
    → IsPrompt has_pending g.shape →
    (s : Snapshot) → IsSnapshot s → (location : ℕ) → location < length s.operations → (rest : List ℕ) →
    sized_operation_at has_pending d g.bytes max_digests (operation_text has_pending (own_operation_proof h g s location)
    ++ rest) ≡ Ok (own_operation_proof h g s location, rest)

-- What its own range proof is written as is read again, by a reader of at least as many digests as it has.
abbrev pub OwnCurrentProofsAreReadAgain : Type 0
OwnCurrentProofsAreReadAgain =
    (d : ℕ) (h : HashFunction) → IsSized d h → (g : Grafting) → IsGrafting g → (has_pending : Bool)
    → IsPrompt has_pending g.shape →
    (s : Snapshot) → IsSnapshot s → (low high most : ℕ) → length (own_range_proof h g s low high).range.digests ≤ most
    → most < 2 ^ 64 → (rest : List ℕ) →
    range_proof_at has_pending d most (range_proof_text has_pending (own_range_proof h g s low high) ++ rest)
    ≡ Ok (own_range_proof h g s low high, rest)
