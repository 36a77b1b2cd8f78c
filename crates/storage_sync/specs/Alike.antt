-- What snapshots with one canonical root have in common, whatever their floors.
use Rattle.std.specs.Prelude.{◌≡◌, ◌⊎◌, ℕ, ◌<◌, [], length}
use Rattle.storage_codec.specs.Digests.{HashFunction, IsSized, Cross}
use Rattle.storage_merkle.specs.Shape.{Laws}
use Rattle.storage_current.specs.Snapshots.{Grafting, Snapshot, IsSnapshot, aligned_of, canonical_root, exact_of, ops_root_of, own_range_proof, own_witness, snapshot_strings}
use Rattle.storage_sync.specs.Pages.{IsCopy}

-- the snapshot of no operations
abbrev pub nothing : Snapshot
nothing = record { operations = []; bits = []; floor = 0 }

-- two snapshots have as many operations and inactive peaks, and one operations root
pub record AreAlike (h : HashFunction) (g : Grafting) (s t : Snapshot) : Type 0 where
  pub count : length s.operations ≡ length t.operations
  pub ops_root : ops_root_of h g s ≡ ops_root_of h g t
  pub exact : exact_of h g s ≡ exact_of h g t
  pub aligned : aligned_of h g s ≡ aligned_of h g t

-- Snapshots with one canonical root are alike, or two different strings of their calculations have one digest.
abbrev pub RootsBindSnapshots : Type 0
RootsBindSnapshots =
    (d : ℕ) (h : HashFunction) → 0 < d → IsSized d h → (g : Grafting) → Laws g.shape → (s t : Snapshot) → IsSnapshot s
    → IsSnapshot t → canonical_root h g s ≡ canonical_root h g t
    → AreAlike h g s t ⊎ Cross h (snapshot_strings h g s) (snapshot_strings h g t)

-- A snapshot with the canonical root of the snapshot of nothing is that one, or two such strings cross.
abbrev pub RootOfNothing : Type 0
RootOfNothing =
    (d : ℕ) (h : HashFunction) → 0 < d → IsSized d h → (g : Grafting) → Laws g.shape → (s : Snapshot) → IsSnapshot s
    → canonical_root h g s ≡ canonical_root h g nothing
    → IsCopy h g s [] [] (ops_root_of h g nothing) ⊎ Cross h (snapshot_strings h g nothing) (snapshot_strings h g s)

-- two snapshots have the same proofs, and the same witness
pub record ProveAlike (h : HashFunction) (g : Grafting) (s t : Snapshot) : Type 0 where
  pub proofs : (low high : ℕ) → own_range_proof h g s low high ≡ own_range_proof h g t low high
  pub witness : own_witness h g s ≡ own_witness h g t

-- Snapshots of the same operations and bits with one canonical root have the same proofs, whatever floors these have, or two such
-- strings cross.
abbrev pub FloorsProveAlike : Type 0
FloorsProveAlike =
    (d : ℕ) (h : HashFunction) → 0 < d → IsSized d h → (g : Grafting) → Laws g.shape → (s t : Snapshot) → IsSnapshot s
    → IsSnapshot t → s.operations ≡ t.operations → s.bits ≡ t.bits → canonical_root h g s ≡ canonical_root h g t
    → ProveAlike h g s t ⊎ Cross h (snapshot_strings h g s) (snapshot_strings h g t)
