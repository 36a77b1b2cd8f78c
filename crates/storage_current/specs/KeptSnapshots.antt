-- Snapshots in memory: what is kept of one, and why there is none.
use Rattle.std.specs.Prelude.{◌≡◌, ℕ, ◌*◌, ◌^◌, ◌<◌, ◌≤◌, ◌⊎◌, List, length, Option}
use Rattle.storage_codec.specs.Digests.{HashFunction}
use Rattle.storage_merkle.specs.declared.merkle.error.Error.TheVariants.{RangeOutOfBounds, LocationOverflow}
use Rattle.storage_merkle.specs.Hashing.{leaf_digests}
use Rattle.storage_merkle.specs.Kept.{at_peaks}
use Rattle.storage_merkle.specs.Shape.{max_leaves}
use Rattle.storage_merkle.specs.Trees.{ungrafted}
use Rattle.storage_bitmap.specs.Chunks.{IsRest, Retained, bit_count}
use Rattle.storage_ops.specs.declared.qmdb.error.Error.{Error}
use Rattle.storage_ops.specs.declared.qmdb.error.Error.TheVariants.{DataCorrupted, Merkle, Memory}
use Rattle.storage_current.specs.NodeLists.{AreNodes, plain_over, told_by}
use Rattle.storage_current.specs.Snapshots.{Grafting, Snapshot, graftable, height, view_node, ops_root_of, canonical_root, Witness, own_witness}

-- how many operations there are; the digests of the grafted view's nodes by position, as a tree over the operations and one over their
-- chunks have them; those of the peaks over the pruned operations; what is left of the bits; the floor, the roots, and the witness of
-- the operations root
pub record KeptSnapshot : Type 0 where
  pub leaves : ℕ
  pub nodes : List (Option (List ℕ))
  pub pinned : List (List ℕ)
  pub status : Retained
  pub floor : ℕ
  pub ops_root : List ℕ
  pub root : List ℕ
  pub witness : Witness

-- how many operations are pruned: those of the chunks that are
abbrev pub pruned_operations : Grafting → Retained → ℕ
pruned_operations g status = status.pruned * 2 ^ height g

-- These are the snapshot's. Only graftable chunks are pruned: of their operations no node below the height of chunks is left, but each
-- other node of the view is.
pub record StandsForSnapshot (h : HashFunction) (g : Grafting) (kept : KeptSnapshot) (s : Snapshot) : Type 0 where
  pub leaves : kept.leaves ≡ length s.operations
  pub nodes : AreNodes g.shape (height g) (pruned_operations g kept.status) (length s.operations) (view_node h g s)
      (told_by kept.nodes)
  pub pinned : kept.pinned ≡ at_peaks (plain_over h g.shape (leaf_digests h (ungrafted g.shape) 0 s.operations)) 0
      (g.shape.peaks (pruned_operations g kept.status))
  pub status : IsRest g.bytes kept.status s.bits
  pub pruned : kept.status.pruned ≤ graftable g (length s.operations)
  pub floor : kept.floor ≡ s.floor
  pub ops_root : kept.ops_root ≡ ops_root_of h g s
  pub root : kept.root ≡ canonical_root h g s
  pub witness : kept.witness ≡ own_witness h g s

-- none of so many operations lacks its bit, and no bit is forgotten
pub record HasEachBit (n count : ℕ) (bits : Retained) : Type 0 where
  pub all : bit_count n bits ≡ count
  pub unpruned : bits.pruned ≡ 0

-- these are the roots of a snapshot, and the witness of its operations root
pub record AreRootsOf (h : HashFunction) (g : Grafting) (s : Snapshot) (ops canonical : List ℕ) (told : Witness) : Type 0 where
  pub ops_root : ops ≡ ops_root_of h g s
  pub root : canonical ≡ canonical_root h g s
  pub witness : told ≡ own_witness h g s

-- the refusal is corrupted data; its text is not told
abbrev pub IsCorrupted : {F : Type 0} → Error F → Type 0
IsCorrupted (DataCorrupted text) = Unit {0}
IsCorrupted _ = ⊥

-- why there is no snapshot of so many operations with these bits and this floor: the first reason that holds, else want of memory
abbrev pub IsSnapshotRefused : {F : Type 0} → ℕ → ℕ → Retained → ℕ → Error F → Type 0
IsSnapshotRefused n count bits floor error =
    ((HasEachBit n count bits → ⊥) × IsCorrupted error)
    ⊎ (HasEachBit n count bits × (count < floor) × (error ≡ Merkle (RangeOutOfBounds floor)))
    ⊎ (HasEachBit n count bits × (floor ≤ count) × (max_leaves < count) × (error ≡ Merkle (LocationOverflow count)))
    ⊎ (HasEachBit n count bits × (floor ≤ count) × (count ≤ max_leaves) × (error ≡ Memory))
