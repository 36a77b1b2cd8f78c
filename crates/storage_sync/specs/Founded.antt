-- A copy with a floor: whether it is a snapshot with the roots that are trusted.
use Rattle.std.specs.Prelude.{◌≡◌, ℕ, ◌<◌, ◌≤◌, List, length}
use Rattle.storage_codec.specs.Digests.{HashFunction}
use Rattle.storage_merkle.specs.Shape.{max_leaves}
use Rattle.storage_bitmap.specs.Chunks.{Retained, bit_count}
use Rattle.storage_current.specs.Snapshots.{Grafting, Snapshot, canonical_root, ops_root_of}
use Rattle.storage_sync.specs.Pages.{with_floor}
use Rattle.storage_sync.specs.declared.sync.unfounded.Unfounded.{Unfounded}
use Rattle.storage_sync.specs.declared.sync.unfounded.Unfounded.TheVariants.{Malformed, FloorPastTheEnd, OtherRoots, Memory}

-- the canonical root of a snapshot and its operations root are these
pub record HaveRoots (h : HashFunction) (g : Grafting) (s : Snapshot) (root ops_root : List ℕ) : Type 0 where
  pub root_is : canonical_root h g s ≡ root
  pub ops_root_is : ops_root_of h g s ≡ ops_root

-- each of so many operations has its bit, and a tree may have so many
pub record AreCounted (n count : ℕ) (bits : Retained) : Type 0 where
  pub all : bit_count n bits ≡ count
  pub unpruned : bits.pruned ≡ 0
  pub few : count ≤ max_leaves

-- why these operations and bits with a floor are no snapshot with these roots: the first reason that holds, else want of memory
abbrev pub IsUnfounded : HashFunction → Grafting → List (List ℕ) → Retained → (floor : ℕ) → (root ops_root : List ℕ) → Unfounded
    → Type 0
IsUnfounded h g operations bits floor root ops_root Malformed = AreCounted g.bytes (length operations) bits → ⊥
IsUnfounded h g operations bits floor root ops_root FloorPastTheEnd =
    AreCounted g.bytes (length operations) bits × (length operations < floor)
IsUnfounded h g operations bits floor root ops_root OtherRoots =
    AreCounted g.bytes (length operations) bits × (floor ≤ length operations)
    × (HaveRoots h g (with_floor operations bits.bits floor) root ops_root → ⊥)
IsUnfounded h g operations bits floor root ops_root Memory = Unit {0}
