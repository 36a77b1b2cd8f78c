-- What a snapshot in memory hands out for a proof.
use Rattle.std.specs.Prelude.{◌≡◌, ℕ, ◌≤◌, List, length, Option, option_map}
use Rattle.storage_codec.specs.Digests.{HashFunction}
use Rattle.storage_merkle.specs.Plans.{PlanOf}
use Rattle.storage_bitmap.specs.Chunks.{Retained}
use Rattle.storage_current.specs.KeptSnapshots.{KeptSnapshot, StandsForSnapshot}
use Rattle.storage_current.specs.NodeLists.{told_by}
use Rattle.storage_current.specs.Snapshots.{Grafting, Snapshot, first_chunk}

-- these are the bits, the nodes, the operations root and the canonical root of one that stands for a snapshot, its floor, and a plan
-- over its operations, from a chunk that is not pruned on
pub record AreSnapshotParts {D : Type 0} (bytes_of : D → List ℕ) (answers : ℕ → Option D → Type 0) (h : HashFunction)
    (g : Grafting) (plan : PlanOf) (status : Retained) (floor : ℕ) (ops_root root : List ℕ) (kept : KeptSnapshot)
    (s : Snapshot) : Type 0 where
  pub stands : StandsForSnapshot h g kept s
  pub count : plan.leaves ≡ length s.operations
  pub from : kept.status.pruned ≤ first_chunk g plan.start
  pub status_is : status ≡ kept.status
  pub nodes_are : (p : ℕ) (o : Option D) → answers p o → option_map bytes_of o ≡ told_by kept.nodes p
  pub floor_is : floor ≡ s.floor
  pub ops_root_is : ops_root ≡ kept.ops_root
  pub root_is : root ≡ kept.root
