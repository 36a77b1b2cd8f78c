-- The trees that a snapshot in memory keeps: one over its operations, one over their graftable chunks.
use Rattle.std.specs.Prelude.{◌≡◌, ℕ, ◌+◌, ◌*◌, ◌^◌, ◌<◌, ◌≤◌, ◌++◌, List, [], length, get_or}
use Rattle.storage_codec.specs.Digests.{HashFunction}
use Rattle.storage_merkle.specs.Kept.{Kept, StandsFor}
use Rattle.storage_bitmap.specs.Chunks.{IsChunkSize, IsRest, Retained, bit_count}
use Rattle.storage_current.specs.CombinedViews.{chunk_node}
use Rattle.storage_current.specs.KeptSnapshots.{pruned_operations}
use Rattle.storage_current.specs.NodeLists.{IsGrown, IsOver}
use Rattle.storage_current.specs.Snapshots.{Grafting, Snapshot, graftable, height, view_node}

-- a tree in memory is over chunks with these digests
abbrev pub StandsForChunks : {D : Type 0} → (D → List ℕ) → HashFunction → Grafting → Kept D → List (List ℕ) → Type 0
StandsForChunks bytes_of h g = StandsFor bytes_of g.shape (λ list k a. chunk_node h g list a k)

-- There is a bit for each operation, and operations and bits are pruned alike: by some of the graftable chunks.
pub record ArePruned {D : Type 0} (g : Grafting) (operations : Kept D) (status : Retained) : Type 0 where
  pub all : bit_count g.bytes status ≡ operations.leaves
  pub place : operations.boundary ≡ pruned_operations g status
  pub few : status.pruned ≤ graftable g operations.leaves

-- A tree over operations and one over their graftable chunks, as a snapshot keeps them: each is over some leaves, and of the one over
-- chunks nothing is forgotten. Of which operations, and of which chunks, the digests tell.
pub record AreKept {D : Type 0} (bytes_of : D → List ℕ) (h : HashFunction) (g : Grafting) (operations chunks : Kept D)
    (status : Retained) : Type 0 where
  pub sized : IsChunkSize g.bytes
  pub grown : IsGrown bytes_of h g.shape operations
  pub pruned : ArePruned g operations status
  pub unpruned : chunks.boundary ≡ 0
  pub unpinned : chunks.pinned ≡ []
  pub count : chunks.leaves ≡ graftable g operations.leaves
  pub list : List (List ℕ)
  pub stands : StandsForChunks bytes_of h g chunks list

-- the digests of a snapshot's chunks' nodes with the chunks grafted, side by side from one chunk on
abbrev pub AreGraftsFrom : HashFunction → Grafting → Snapshot → ℕ → List (List ℕ) → Type 0
AreGraftsFrom h g s start grafts =
    (i : ℕ) → i < length grafts → get_or grafts i [] ≡ view_node h g s ((start + i) * 2 ^ height g) (height g)

-- A tree over chunks is over a list of them and more behind it: the grafts of each snapshot with these bits whose operations the other
-- tree is over.
pub record HasMoreGrafts {D : Type 0} (bytes_of : D → List ℕ) (h : HashFunction) (g : Grafting) (operations chunks : Kept D)
    (status : Retained) (list : List (List ℕ)) : Type 0 where
  pub more : List (List ℕ)
  pub stands : StandsForChunks bytes_of h g chunks (list ++ more)
  pub are : (s : Snapshot) → IsRest g.bytes status s.bits → IsOver bytes_of h g.shape operations s.operations
      → AreGraftsFrom h g s (length list) more
