-- A snapshot's parts, as a server keeps them beside a tree over chunks.
use Rattle.std.specs.Prelude.{◌≡◌, ℕ, List, length, min, Option}
use Rattle.storage_codec.specs.Digests.{HashFunction}
use Rattle.storage_merkle.specs.Shape.{size}
use Rattle.storage_bitmap.specs.Chunks.{Retained, IsRest}
use Rattle.storage_current.specs.CombinedViews.{AnswersAreTrue, operations_node}
use Rattle.storage_current.specs.Snapshots.{Grafting, Snapshot, IsSnapshot, ops_root_of}

-- a tree over operations has as many nodes as that over a snapshot's, and what it has is of these; and the bits, the floor and the
-- operations root are the snapshot's
pub record AreOtherParts {D : Type 0} (bytes_of : D → List ℕ) (h : HashFunction) (g : Grafting) (nodes : ℕ)
    (node : ℕ → Option D) (status : Retained) (floor : ℕ) (ops_root : List ℕ) (s : Snapshot) : Type 0 where
  pub snapshot : IsSnapshot s
  pub count : nodes ≡ size g.shape (length s.operations)
  pub operations : AnswersAreTrue bytes_of g.shape (length s.operations) (operations_node h g s) node
  pub bits : IsRest g.bytes status s.bits
  pub floor_is : s.floor ≡ min floor (length s.operations)
  pub root_is : ops_root ≡ ops_root_of h g s
