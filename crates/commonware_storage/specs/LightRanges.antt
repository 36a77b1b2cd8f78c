-- What a client that trusts one digest learns of ranges from bytes.
use Rattle.std.specs.Prelude.{◌≡◌, ◌⊎◌, ℕ, ◌+◌, ◌≤◌, ◌<◌, ◌^◌, Bool, List, [], length, Ok}
use Rattle.storage_codec.specs.Digests.{HashFunction, IsSized, Cross}
use Rattle.storage_codec.specs.Codec.{whole}
use Rattle.storage_current.specs.Snapshots.{Grafting, IsGrafting, Snapshot, IsSnapshot, canonical_root, snapshot_strings, Holds, RangeProof, own_range_proof}
use Rattle.storage_current.specs.CurrentProofs.{IsCurrent, current_strings}
use Rattle.storage_current.specs.CurrentWire.{range_proof_text, range_proof_at}
use Rattle.storage_current.specs.OwnWire.{IsPrompt}

-- these bytes are one whole range proof, with at most so many digests of d bytes
pub record IsRangeProof (has_pending : Bool) (d most : ℕ) (bytes : List ℕ) : Type 0 where
  pub proof : RangeProof
  pub read : whole (range_proof_at has_pending d most bytes) ≡ Ok (proof, [])

-- the same, and the check of that proof says yes for operations from `start` on and the chunks that they touch against a root
pub record IsAcceptedRange (h : HashFunction) (g : Grafting) (has_pending : Bool) (d most start : ℕ) (bytes : List ℕ)
    (operations chunks : List (List ℕ)) (root : List ℕ) : Type 0 where
  pub proof : RangeProof
  pub read : whole (range_proof_at has_pending d most bytes) ≡ Ok (proof, [])
  pub accepted : IsCurrent h g proof start operations chunks root

-- what a snapshot's own proof of the operations from low to high - 1 is written as
abbrev pub own_range_text : HashFunction → Grafting → Bool → Snapshot → ℕ → ℕ → List ℕ
own_range_text h g has_pending s low high = range_proof_text has_pending (own_range_proof h g s low high)

-- What a yes means, whatever the bytes are. Of each snapshot with that canonical root: the operations stand there from `start` on and
-- the chunks that they touch are these, and the bytes are what the snapshot's own proof is written as, or a string that the check
-- hashed and a different one of the root's calculation have one digest.
pub record IsTrueRange (h : HashFunction) (g : Grafting) (has_pending : Bool) (d most start : ℕ) (bytes : List ℕ)
    (operations chunks : List (List ℕ)) (root : List ℕ) : Type 0 where
  pub proof : RangeProof
  pub read : whole (range_proof_at has_pending d most bytes) ≡ Ok (proof, [])
  pub meaning : (s : Snapshot) → IsSnapshot s → canonical_root h g s ≡ root →
      Holds g s start operations chunks
      × (bytes ≡ own_range_text h g has_pending s start (start + length operations))
      ⊎ Cross h (current_strings h g proof start operations chunks) (snapshot_strings h g s)

-- that proof has at most so many digests
abbrev pub HasFewDigests : HashFunction → Grafting → Snapshot → ℕ → ℕ → ℕ → Type 0
HasFewDigests h g s low high most = length (own_range_proof h g s low high).range.digests ≤ most

-- The other half. What a snapshot's own proof of operations that stand there is written as is accepted where as many digests as it
-- has are allowed.
abbrev pub OwnRangesAreAccepted : Type 0
OwnRangesAreAccepted =
    (d : ℕ) (h : HashFunction) → IsSized d h → (g : Grafting) → IsGrafting g → (has_pending : Bool)
    → IsPrompt has_pending g.shape →
    (s : Snapshot) → IsSnapshot s → (most start : ℕ) (operations chunks : List (List ℕ))
    → Holds g s start operations chunks → HasFewDigests h g s start (start + length operations) most → most < 2 ^ 64 →
    IsAcceptedRange h g has_pending d most start (own_range_text h g has_pending s start (start + length operations))
    operations chunks (canonical_root h g s)
