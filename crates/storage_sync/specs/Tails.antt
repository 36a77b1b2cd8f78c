-- The trees of a copy that begins at a location: what it means that they have the grafted root of its opening, and why there are none.
use Rattle.std.specs.Prelude.{◌≡◌, ◌⊎◌, ℕ, ◌*◌, ◌<◌, ◌≤◌, Bool, List, ◌++◌, length, Option}
use Rattle.storage_codec.specs.Digests.{HashFunction, Cross}
use Rattle.storage_merkle.specs.Kept.{Kept, kept_at}
use Rattle.storage_bitmap.specs.Chunks.{Retained, bit_count}
use Rattle.storage_current.specs.GraftedTrees.{KeptChunks}
use Rattle.storage_current.specs.Openings.{MeansOpening, opening_strings}
use Rattle.storage_current.specs.Pins.{kept_texts, low_texts, told_strings}
use Rattle.storage_current.specs.Snapshots.{Grafting, Snapshot, IsSnapshot, aligned, canonical_root, grafted_root_of, height, snapshot_strings}
use Rattle.storage_current.specs.Tails.{DoFit}
use Rattle.storage_sync.specs.Beginnings.{IsBeginning}
use Rattle.storage_sync.specs.Floors.{IsCopyFrom}
use Rattle.storage_sync.specs.Openings.{Opening}
use Rattle.storage_sync.specs.Pages.{Page, hashed_by}
use Rattle.storage_sync.specs.Syncs.{Taken, IsKept, IsWhole}
use Rattle.storage_sync.specs.declared.sync.unfounded.Unfounded.{Unfounded}
use Rattle.storage_sync.specs.declared.sync.unfounded.Unfounded.TheVariants.{Malformed, FloorPastTheEnd, OtherRoots, Memory}

-- so many operations, with what is left of their bits, are behind an opening: they begin where it does, and its pins are as many as there
-- are peaks over what is before
pub record IsBehind (g : Grafting) (o : Opening) (count : ℕ) (status : Retained) : Type 0 where
  pub at : status.pruned * (8 * g.bytes) ≡ o.begin
  pub fit : DoFit g (length o.pins) (length o.over_chunks) count status

-- Trees with an opening's pins, of a copy with a floor, have the grafted root of its witness. Where the copy is whole, is what some
-- proved pages gave, and the opening is accepted, it is a copy of each snapshot with that root: its operations and bits from there on,
-- and the pins of what is before. Or a string that was hashed on the way and a different one of the root's calculation have one digest.
abbrev pub MeansCopyFrom : {D : Type 0} → (D → List ℕ) → ℕ → HashFunction → Grafting → Opening → List (List ℕ) → List Bool
    → (floor : ℕ) → Kept D → KeptChunks D → Type 0
MeansCopyFrom {D} bytes_of d h g o operations bits floor tree chunks =
    let below : ℕ → Option D = kept_at g.shape tree.boundary tree.pinned tree.nodes in
    (t : Taken) (pages : List Page) → IsKept h g d t pages → IsWhole t →
    t.begin ≡ o.begin → t.operations ≡ operations → t.bits ≡ bits →
    MeansOpening h g.shape o.witness o.ops_root o.proof o.begin o.operations o.pins t.root →
    (s : Snapshot) → IsSnapshot s → canonical_root h g s ≡ t.root →
    IsCopyFrom h g s o.begin operations bits o.ops_root o.pins o.over_chunks
    ⊎ Cross h (opening_strings h g.shape o.witness o.ops_root o.proof o.begin o.operations o.pins ++ (hashed_by h g o.begin pages
    ++ told_strings h g (kept_texts bytes_of g.shape chunks) (low_texts h bytes_of g.shape below) tree.leaves
    (aligned g.shape tree.leaves floor (height g)))) (snapshot_strings h g s)

-- why these operations and bits, behind an opening, have no trees with a floor: the first reason that holds, else want of memory. They have
-- another root, unless they are what a snapshot with this floor has from there on, and the opening is its own.
abbrev pub HasNoTail : HashFunction → Grafting → Opening → List (List ℕ) → Retained → (floor : ℕ) → Unfounded → Type 0
HasNoTail h g o operations status floor Malformed = IsBehind g o (length operations) status → ⊥
HasNoTail h g o operations status floor FloorPastTheEnd =
    IsBehind g o (length operations) status × (bit_count g.bytes status < floor)
HasNoTail h g o operations status floor OtherRoots =
    IsBehind g o (length operations) status × (floor ≤ bit_count g.bytes status)
    × ((s : Snapshot) → IsSnapshot s → IsBeginning g (length s.operations) o.begin →
    IsCopyFrom h g s o.begin operations status.bits o.ops_root o.pins o.over_chunks → floor ≡ s.floor →
    o.witness.grafted_root ≡ grafted_root_of h g s → ⊥)
HasNoTail h g o operations status floor Memory = Unit {0}

-- ---- the snapshot that such a copy goes on as

-- a snapshot with another floor
abbrev pub with_floor_of : Snapshot → ℕ → Snapshot
with_floor_of s floor = record { operations = s.operations; bits = s.bits; floor = floor }

-- why there is none with a canonical root: as there are no trees, or they have another root, unless it is that of such a snapshot
abbrev pub HasNoSnapshotTail : HashFunction → Grafting → Opening → List (List ℕ) → Retained → (floor : ℕ) → (root : List ℕ) → Unfounded
    → Type 0
HasNoSnapshotTail h g o operations status floor root OtherRoots =
    IsBehind g o (length operations) status × (floor ≤ bit_count g.bytes status)
    × ((s : Snapshot) → IsSnapshot s → IsBeginning g (length s.operations) o.begin →
    IsCopyFrom h g s o.begin operations status.bits o.ops_root o.pins o.over_chunks → floor ≡ s.floor →
    o.witness.grafted_root ≡ grafted_root_of h g s → canonical_root h g s ≡ root → ⊥)
HasNoSnapshotTail h g o operations status floor root why = HasNoTail h g o operations status floor why
