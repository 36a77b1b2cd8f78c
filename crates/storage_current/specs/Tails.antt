-- The trees of a snapshot from an operation on, where what is before it is told by pins.
use Rattle.std.specs.Prelude.{◌≡◌, ◌⊎◌, ℕ, ◌+◌, ◌-◌, ◌*◌, ◌/◌, ◌^◌, ◌<◌, ◌≤◌, List, drop, length}
use Rattle.std.specs.List.{Contains}
use Rattle.storage_codec.specs.Digests.{HashFunction}
use Rattle.storage_merkle.specs.Kept.{Kept}
use Rattle.storage_merkle.specs.Nodes.{IsNode}
use Rattle.storage_merkle.specs.Plans.{planned}
use Rattle.storage_merkle.specs.Shape.{Laws, Shape, max_leaves, size}
use Rattle.storage_bitmap.specs.Chunks.{IsRest, Retained, bit_count}
use Rattle.storage_current.specs.CombinedViews.{AreGraftedLeaves, chunk_node}
use Rattle.storage_current.specs.GraftedTrees.{IsPeak, KeptChunks, Keeps}
use Rattle.storage_current.specs.KeptTrees.{ArePruned}
use Rattle.storage_current.specs.NodeLists.{IsOver}
use Rattle.storage_current.specs.Pins.{HavePins, chunk_pins, operation_pins}
use Rattle.storage_current.specs.Snapshots.{Grafting, Snapshot, graftable, height}

-- so many pins over the operations that are pruned and so many over the chunks, so many operations behind them, and what is left of the
-- bits: one bit for each operation, and one pin for each peak
pub record DoFit (g : Grafting) (pins over_chunks count : ℕ) (status : Retained) : Type 0 where
  pub bit_each : length status.bits ≡ count
  pub few : bit_count g.bytes status ≤ max_leaves
  pub pin_each : pins ≡ length (g.shape.peaks (status.pruned * (8 * g.bytes)))
  pub chunk_pin_each : over_chunks ≡ length (g.shape.peaks status.pruned)
  pub graftable : status.pruned ≤ graftable g (bit_count g.bytes status)

-- a tree over operations and one over all their graftable chunks, with these pins for what is pruned
pub record ArePinned {D : Type 0} (g : Grafting) (pins over_chunks : List D) (status : Retained) (operations : Kept D)
    (chunks : KeptChunks D) : Type 0 where
  pub pruned : ArePruned g operations status
  pub pins_are : operations.pinned ≡ pins
  pub place : chunks.pruned ≡ status.pruned
  pub over_chunks_are : chunks.pinned ≡ over_chunks
  pub all : chunks.pruned + length chunks.leaves ≡ graftable g operations.leaves

-- pins, operations behind what is pruned and what is left of the bits are a snapshot's own
pub record AreOwnParts (h : HashFunction) (g : Grafting) (s : Snapshot) (pins over_chunks operations : List (List ℕ))
    (status : Retained) : Type 0 where
  pub bits_are : IsRest g.bytes status s.bits
  pub operations_are : operations ≡ drop (status.pruned * (8 * g.bytes)) s.operations
  pub pins_are : pins ≡ operation_pins h g s (status.pruned * (8 * g.bytes))
  pub over_chunks_are : over_chunks ≡ chunk_pins h g s status.pruned

-- a tree over operations and one over chunks are of a snapshot: over all its operations, and over all its graftable chunks
pub record AreTreesOf {D : Type 0} (bytes_of : D → List ℕ) (h : HashFunction) (g : Grafting) (s : Snapshot) (operations : Kept D)
    (chunks : KeptChunks D) : Type 0 where
  pub over : IsOver bytes_of h g.shape operations s.operations
  pub list : List (List ℕ)
  pub grafted : AreGraftedLeaves h g s list
  pub keeps : Keeps bytes_of g.shape (λ leaves k a. chunk_node h g leaves a k) chunks list

-- ---- what is left to serve from

-- a node of height k with first leaf a is left where the operations of the first c chunks of 2 ^ g are forgotten, and the first b chunks are
-- told by pins: below the height of chunks it stands behind those operations; from there on it stands behind those b chunks in their
-- tree, or is a peak over them
abbrev pub IsTailRetained : Shape → (g c b a k : ℕ) → Type 0
IsTailRetained S g c b a k = ((k < g) × (size S (c * 2 ^ g) ≤ S.position a k))
    ⊎ ((g ≤ k) × ((size S b ≤ S.position (a / 2 ^ g) (k - g)) ⊎ IsPeak (S.peaks b) 0 (a / 2 ^ g) (k - g)))

-- Where the first chunks are told by pins that are nodes of the view, each node that is planned of a range behind the operations that are
-- forgotten is left.
abbrev pub PlannedNodesAreLeft : Grafting → Type 0
PlannedNodesAreLeft g =
    Laws g.shape → (n low high c b p a k : ℕ) → b ≤ c → c * 2 ^ height g ≤ low → c ≤ graftable g n → HavePins g n b →
    Contains (planned g.shape n low high) p → IsNode g.shape p a k → IsTailRetained g.shape (height g) c b a k
