-- Where a claimed range stands among the chunks, and the digests of chunks under no node of their own.
use Rattle.std.specs.Prelude.{◌≡◌, ℕ, ◌+◌, ◌-◌, ◌%◌, ◌<◌, ◌≤◌, ◌^◌, List, [], get_or, Bool, true, Option, Some, is_some}
use Rattle.storage_codec.specs.Digests.{HashFunction}
use Rattle.storage_merkle.specs.Shape.{max_leaves}
use Rattle.storage_bitmap.specs.Chunks.{IsChunkSize}
use Rattle.storage_current.specs.declared.qmdb.current.proof.window.Window.{Window}
use Rattle.storage_current.specs.Snapshots.{Grafting, height, complete, graftable, first_chunk, last_chunk}

-- a range of so many operations from `start` on, with so many chunks, fits among the leaves
pub record IsWindow (g : Grafting) (leaves start count chunks : ℕ) : Type 0 where
  pub size : IsChunkSize g.bytes
  pub some : 0 < count
  pub few : leaves ≤ max_leaves
  pub within : start + count ≤ leaves
  pub chunk_count : chunks ≡ last_chunk g start count - first_chunk g start + 1
  pub one_pending : complete g leaves ≤ graftable g leaves + 1

-- a window is that of the range
pub record IsWindowOf (g : Grafting) (leaves start count chunks : ℕ) (w : Window) : Type 0 where
  pub fits : IsWindow g leaves start count chunks
  pub height_is : w.height ≡ height g
  pub first_is : w.first_chunk ≡ first_chunk g start
  pub last_is : w.last_chunk ≡ last_chunk g start count
  pub complete_is : w.counts.complete ≡ complete g leaves
  pub graftable_is : w.counts.graftable ≡ graftable g leaves
  pub next_is : w.counts.next_bit ≡ leaves % 2 ^ height g

-- a slot has a digest just where its chunk is there, and it is the claimed chunk's where one of the claimed chunks, from `first`
-- to `last`, is this one
pub record IsMatched (h : HashFunction) (slot : Option (List ℕ)) (there : Bool) (first last index : ℕ)
    (chunks : List (List ℕ)) : Type 0 where
  pub has : is_some slot ≡ there
  pub is : there ≡ true → first ≤ index → index ≤ last → slot ≡ Some (h (get_or chunks (index - first) []))
