-- Snapshots behind an operation: their trees, where the first chunks are told by pins, and what is kept of one.
use Rattle.std.specs.Prelude.{◌≡◌, ℕ, ◌≤◌, List, [], length, map, Option}
use Rattle.storage_codec.specs.Digests.{HashFunction}
use Rattle.storage_merkle.specs.Hashing.{leaf_digests}
use Rattle.storage_merkle.specs.Kept.{HoldsDigests, Kept, kept_at}
use Rattle.storage_merkle.specs.Shape.{Shape, max_leaves, size}
use Rattle.storage_merkle.specs.Trees.{ungrafted}
use Rattle.storage_bitmap.specs.Chunks.{IsChunkSize, IsRest, Retained}
use Rattle.storage_current.specs.Combined.{joined}
use Rattle.storage_current.specs.CombinedViews.{AreGraftedLeaves, grafted_node}
use Rattle.storage_current.specs.KeptSnapshots.{pruned_operations}
use Rattle.storage_current.specs.KeptTrees.{ArePruned, StandsForChunks}
use Rattle.storage_current.specs.NodeLists.{IsOver, plain_over}
use Rattle.storage_current.specs.Pins.{HavePins}
use Rattle.storage_current.specs.Snapshots.{Grafting, Snapshot, Witness, canonical_root, graftable, height, ops_root_of, own_witness}

-- ---- trees

-- A tree over operations, one over their graftable chunks, and what is left of the bits fit together. The first chunks may be told by pins
-- that are nodes of the view: of these nothing is said but how many there are.
pub record AreTrees {D : Type 0} (g : Grafting) (operations chunks : Kept D) (status : Retained) : Type 0 where
  pub sized : IsChunkSize g.bytes
  pub few : operations.leaves ≤ max_leaves
  pub pruned : ArePruned g operations status
  pub behind : chunks.boundary ≤ status.pruned
  pub pins : length chunks.pinned ≡ length (g.shape.peaks chunks.boundary)
  pub have : HavePins g operations.leaves chunks.boundary
  pub count : chunks.leaves ≡ graftable g operations.leaves

-- a tree in memory is over a snapshot's graftable chunks
pub record IsOverChunks {D : Type 0} (bytes_of : D → List ℕ) (h : HashFunction) (g : Grafting) (chunks : Kept D) (s : Snapshot)
    : Type 0 where
  pub list : List (List ℕ)
  pub grafted : AreGraftedLeaves h g s list
  pub stands : StandsForChunks bytes_of h g chunks list

-- the trees are over a snapshot's operations and chunks, and the bits are what is left of its own
pub record AreOfSnapshot {D : Type 0} (bytes_of : D → List ℕ) (h : HashFunction) (g : Grafting) (operations chunks : Kept D)
    (status : Retained) (s : Snapshot) : Type 0 where
  pub bits : IsRest g.bytes status s.bits
  pub over : IsOver bytes_of h g.shape operations s.operations
  pub chunks_are : IsOverChunks bytes_of h g chunks s

-- ---- what is kept

-- the digests that a tree in memory has, by their bytes: those of the peaks over the leaves that are forgotten, and of the nodes behind
pub record ToldTree : Type 0 where
  pub leaves : ℕ
  pub boundary : ℕ
  pub pinned : List (List ℕ)
  pub nodes : List (List ℕ)

abbrev pub told_tree : {D : Type 0} → (D → List ℕ) → Kept D → ToldTree
told_tree bytes_of m = record {
  leaves = m.leaves;
  boundary = m.boundary;
  pinned = map bytes_of m.pinned;
  nodes = map bytes_of m.nodes;
}

-- they are the digests of the nodes over so many leaves
pub record IsToldOf (S : Shape) (node : ℕ → ℕ → List ℕ) (count : ℕ) (t : ToldTree) : Type 0 where
  pub leaves : t.leaves ≡ count
  pub holds : HoldsDigests S node [] t.boundary (size S t.leaves) t.pinned t.nodes

-- a tree over operations and one over their graftable chunks; what is left of the bits; the floor, the roots, and the witness of the
-- operations root
pub record KeptTail : Type 0 where
  pub operations : ToldTree
  pub chunks : ToldTree
  pub status : Retained
  pub floor : ℕ
  pub ops_root : List ℕ
  pub root : List ℕ
  pub witness : Witness

-- the digest at a position, where chunks are over nodes of the height g: below it that of a node behind the operations that are forgotten,
-- else what the tree over chunks has
abbrev pub tail_node : Shape → ℕ → KeptTail → ℕ → Option (List ℕ)
tail_node S g kept = joined S g (size S kept.operations.leaves)
    (kept_at S kept.chunks.boundary kept.chunks.pinned kept.chunks.nodes)
    (kept_at S kept.operations.boundary [] kept.operations.nodes)

-- These are the snapshot's: its own nodes behind some graftable chunks, and over chunks those behind some of these, or its own pins.
pub record StandsForTail (h : HashFunction) (g : Grafting) (kept : KeptTail) (s : Snapshot) : Type 0 where
  pub operations : IsToldOf g.shape (plain_over h g.shape (leaf_digests h (ungrafted g.shape) 0 s.operations))
      (length s.operations) kept.operations
  pub chunks : IsToldOf g.shape (λ k a. grafted_node h g s a k) (graftable g (length s.operations)) kept.chunks
  pub place : kept.operations.boundary ≡ pruned_operations g kept.status
  pub pruned : kept.status.pruned ≤ graftable g (length s.operations)
  pub behind : kept.chunks.boundary ≤ kept.status.pruned
  pub have : HavePins g (length s.operations) kept.chunks.boundary
  pub status : IsRest g.bytes kept.status s.bits
  pub floor : kept.floor ≡ s.floor
  pub ops_root : kept.ops_root ≡ ops_root_of h g s
  pub root : kept.root ≡ canonical_root h g s
  pub witness : kept.witness ≡ own_witness h g s
