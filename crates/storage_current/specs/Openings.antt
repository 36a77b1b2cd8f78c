-- Openings: what a copy of a snapshot begins with, if what is before it is told by pins alone.
use Rattle.std.specs.Prelude.{◌≡◌, ◌⊎◌, ℕ, ◌+◌, ◌<◌, List, ◌∷◌, length}
use Rattle.storage_codec.specs.Digests.{HashFunction, Cross}
use Rattle.storage_merkle.specs.declared.merkle.bagging.Bagging.TheVariants.{BackwardFold}
use Rattle.storage_merkle.specs.Pinned.{IsPinnedAccepted, pinned_strings}
use Rattle.storage_merkle.specs.RangeProofs.{Proof, StandAt}
use Rattle.storage_merkle.specs.Shape.{Shape}
use Rattle.storage_merkle.specs.Trees.{listed, ungrafted}
use Rattle.storage_current.specs.Beginnings.{IsOwnPlainProof}
use Rattle.storage_current.specs.CurrentProofs.{witness_string}
use Rattle.storage_current.specs.Pins.{operation_pins}
use Rattle.storage_current.specs.Snapshots.{Grafting, IsGrafting, Snapshot, IsSnapshot, Witness, canonical_root, grafting_of, ops_root_of, own_witness, snapshot_strings}

-- a witness of the operations root, and a plain proof under it with the digests of the peaks over what is before its range: both are a
-- snapshot's own
pub record IsOpening (h : HashFunction) (g : Grafting) (s : Snapshot) (w : Witness) (ops_root : List ℕ) (start : ℕ)
    (operations pinned : List (List ℕ)) : Type 0 where
  pub witness_is : w ≡ own_witness h g s
  pub ops_root_is : ops_root ≡ ops_root_of h g s
  pub there : StandAt s.operations start operations
  pub pins_are : pinned ≡ operation_pins h g s start

-- where the check of both says yes
abbrev pub IsOpeningAccepted : HashFunction → Shape → Witness → List ℕ → Proof → ℕ → List (List ℕ) → List (List ℕ) → List ℕ → Type 0
IsOpeningAccepted h S w ops_root proof start operations pinned root = (h (witness_string w ops_root) ≡ root)
    × IsPinnedAccepted h (ungrafted S) BackwardFold proof start (listed operations) pinned ops_root

-- each string that it hashes
abbrev pub opening_strings : HashFunction → Shape → Witness → List ℕ → Proof → ℕ → List (List ℕ) → List (List ℕ) → List (List ℕ)
opening_strings h S w ops_root proof start operations pinned =
    witness_string w ops_root ∷ pinned_strings h (ungrafted S) BackwardFold proof start (listed operations) pinned

-- What its yes means: of each snapshot with that canonical root, whatever its chunks' size, all of it is the snapshot's own, or two
-- strings cross.
abbrev pub MeansOpening : HashFunction → Shape → Witness → List ℕ → Proof → ℕ → List (List ℕ) → List (List ℕ) → List ℕ → Type 0
MeansOpening h S w ops_root proof start operations pinned root =
    (bytes : ℕ) (s : Snapshot) → IsSnapshot s → canonical_root h (grafting_of S bytes) s ≡ root →
    IsOpening h (grafting_of S bytes) s w ops_root start operations pinned
    ⊎ Cross h (opening_strings h S w ops_root proof start operations pinned) (snapshot_strings h (grafting_of S bytes) s)

-- A snapshot's own witness with its operations root, and its own plain proof of some operations with its digests of the peaks over what
-- is before them: the check of both says yes against its canonical root.
abbrev pub OwnOpeningsAreAccepted : Type 0
OwnOpeningsAreAccepted =
    (h : HashFunction) (g : Grafting) → IsGrafting g → (s : Snapshot) → IsSnapshot s →
    (w : Witness) (ops_root : List ℕ) (proof : Proof) (start : ℕ) (operations pinned : List (List ℕ)) → 0 < length operations →
    IsOpening h g s w ops_root start operations pinned → IsOwnPlainProof h g s start (start + length operations) proof →
    IsOpeningAccepted h g.shape w ops_root proof start operations pinned (canonical_root h g s)
