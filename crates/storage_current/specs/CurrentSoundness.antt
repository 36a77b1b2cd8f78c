-- What holds of every snapshot and every check against its canonical root.
use Rattle.std.specs.Prelude.{◌≡◌, ℕ, ◌+◌, ◌/◌, ◌<◌, ◌≤◌, ◌^◌, ◌⊎◌, List, [], ◌∷◌, length, Some}
use Rattle.storage_codec.specs.Digests.{HashFunction, IsSized, Cross}
use Rattle.storage_merkle.specs.Shape.{Shape, Laws}
use Rattle.storage_merkle.specs.Nodes.{AreGraftable}
use Rattle.storage_merkle.specs.Mmr.{mmr}
use Rattle.storage_merkle.specs.Mmb.{mmb}
use Rattle.storage_merkle.specs.RangeProofs.{AreDigests}
use Rattle.storage_current.specs.Snapshots.{Grafting, IsGrafting, graftable_at, Snapshot, IsSnapshot, canonical_root, snapshot_strings, ops_root_of, Holds, IsActive, RangeProof, OperationProof, Witness, own_range_proof, own_operation_proof, own_witness}
use Rattle.storage_current.specs.CurrentProofs.{IsCurrent, current_strings, IsActiveCurrent, operation_strings, witness_string, IsSlot}

-- the digests of a proof have d bytes
pub record HasDigests (d : ℕ) (proof : RangeProof) : Type 0 where
  pub range : AreDigests d proof.range.digests
  pub ops_root : length proof.ops_root ≡ d
  pub pending : IsSlot d proof.pending
  pub partial : IsSlot d proof.partial

-- A range proof that is accepted against a snapshot's canonical root is the snapshot's own, and what it claims holds there, or a
-- string of the check and a different one of the snapshot have one digest.
abbrev pub CurrentProofsAreSound : Type 0
CurrentProofsAreSound =
    (d : ℕ) (h : HashFunction) → (d ≡ 32) ⊎ (d ≡ 64) → IsSized d h → (g : Grafting) → Laws g.shape →
    (proof : RangeProof) (start : ℕ) (operations chunks : List (List ℕ)) → HasDigests d proof →
    (s : Snapshot) → IsSnapshot s → IsCurrent h g proof start operations chunks (canonical_root h g s) →
    (proof ≡ own_range_proof h g s start (start + length operations)) × Holds g s start operations chunks
    ⊎ Cross h (current_strings h g proof start operations chunks) (snapshot_strings h g s)

-- What a yes of that check against a root means: of each snapshot with that root, the proof is the snapshot's own, field for field,
-- and its operations and chunks are the snapshot's, or two strings cross.
abbrev pub MeansCurrent : HashFunction → Grafting → RangeProof → ℕ → List (List ℕ) → List (List ℕ) → List ℕ → Type 0
MeansCurrent h g proof start operations chunks root =
    (s : Snapshot) → IsSnapshot s → canonical_root h g s ≡ root →
    (proof ≡ own_range_proof h g s start (start + length operations)) × Holds g s start operations chunks
    ⊎ Cross h (current_strings h g proof start operations chunks) (snapshot_strings h g s)

-- The same of an operation proof, which says moreover that the operation is active.
abbrev pub OperationProofsAreSound : Type 0
OperationProofsAreSound =
    (d : ℕ) (h : HashFunction) → (d ≡ 32) ⊎ (d ≡ 64) → IsSized d h → (g : Grafting) → Laws g.shape →
    (proof : OperationProof) (operation : List ℕ) → HasDigests d proof.range →
    (s : Snapshot) → IsSnapshot s → IsActiveCurrent h g proof operation (canonical_root h g s) →
    (proof ≡ own_operation_proof h g s proof.location) × IsActive s proof.location operation
    ⊎ Cross h (operation_strings h g proof operation) (snapshot_strings h g s)

-- What its yes against a root means.
abbrev pub MeansActive : HashFunction → Grafting → OperationProof → List ℕ → List ℕ → Type 0
MeansActive h g proof operation root =
    (s : Snapshot) → IsSnapshot s → canonical_root h g s ≡ root →
    (proof ≡ own_operation_proof h g s proof.location) × IsActive s proof.location operation
    ⊎ Cross h (operation_strings h g proof operation) (snapshot_strings h g s)

-- The same of a witness, whose operations root is the snapshot's.
abbrev pub WitnessesAreSound : Type 0
WitnessesAreSound =
    (d : ℕ) (h : HashFunction) → 0 < d → IsSized d h → (g : Grafting) →
    (w : Witness) (ops_root : List ℕ) → length w.grafted_root ≡ d → length ops_root ≡ d → IsSlot d w.pending →
    ((n : ℕ) (x : List ℕ) → w.partial ≡ Some (n, x) → (n < 2 ^ 64) × (length x ≡ d)) →
    (s : Snapshot) → IsSnapshot s → h (witness_string w ops_root) ≡ canonical_root h g s →
    (w ≡ own_witness h g s) × (ops_root ≡ ops_root_of h g s)
    ⊎ Cross h (witness_string w ops_root ∷ []) (snapshot_strings h g s)

-- A snapshot's own proof of operations that stand there is accepted.
abbrev pub OwnCurrentProofsAreAccepted : Type 0
OwnCurrentProofsAreAccepted =
    (h : HashFunction) (g : Grafting) → IsGrafting g → (s : Snapshot) → IsSnapshot s →
    (start : ℕ) (operations chunks : List (List ℕ)) → Holds g s start operations chunks →
    IsCurrent h g (own_range_proof h g s start (start + length operations)) start operations chunks
    (canonical_root h g s)

-- A snapshot's own proof of an active operation is accepted.
abbrev pub OwnOperationProofsAreAccepted : Type 0
OwnOperationProofsAreAccepted =
    (h : HashFunction) (g : Grafting) → IsGrafting g → (s : Snapshot) → IsSnapshot s →
    (location : ℕ) (operation : List ℕ) → IsActive s location operation →
    IsActiveCurrent h g (own_operation_proof h g s location) operation (canonical_root h g s)

-- A snapshot's own witness gives its canonical root.
abbrev pub OwnWitnessesAreAccepted : Type 0
OwnWitnessesAreAccepted = (h : HashFunction) (g : Grafting) (s : Snapshot)
    → h (witness_string (own_witness h g s) (ops_root_of h g s)) ≡ canonical_root h g s

-- At each height, the graftable chunks are those with all their operations inside one peak, and at most one complete chunk is
-- not graftable; in an MMR there is none.
pub record AreLawful (S : Shape) (k : ℕ) : Type 0 where
  pub laws : Laws S
  pub graftable : (n : ℕ) → AreGraftable S n k (graftable_at S k n)
  pub one_pending : (n : ℕ) → n / 2 ^ k ≤ graftable_at S k n + 1

abbrev pub FamiliesAreLawful : Type 0
FamiliesAreLawful = (k : ℕ) → 1 ≤ k → AreLawful mmr k × AreLawful mmb k × ((n : ℕ) → n / 2 ^ k ≡ graftable_at mmr k n)
