-- Snapshots: operations, a bit for each that says whether it is active, and an inactivity floor; their roots and their proofs.
use Rattle.std.specs.Prelude.{◌≡◌, ℕ, zero, suc, ◌+◌, ◌-◌, ◌*◌, ◌/◌, ◌%◌, ◌<◌, ◌≤◌, ◌^◌, List, [], ◌∷◌, ◌++◌, length, take, get_or, Bool, true, false, if◌then◌else◌, ◌&&◌, leb, ltb, eqb, Option, Some, None, option_map, option_to_list}
use Rattle.storage_codec.specs.Digests.{HashFunction, or_nothing}
use Rattle.storage_merkle.specs.declared.merkle.bagging.Bagging.TheVariants.{BackwardFold}
use Rattle.storage_merkle.specs.Shape.{Shape, Laws, leaves_under, max_leaves}
use Rattle.storage_merkle.specs.Nodes.{IsNode}
use Rattle.storage_merkle.specs.Calc.{be8}
use Rattle.storage_merkle.specs.Trees.{Layout, ungrafted, Content, listed, tree_node, tree_root, tree_strings}
use Rattle.storage_merkle.specs.RangeProofs.{Proof, own_proof, StandAt}
use Rattle.storage_bitmap.specs.Chunks.{IsChunkSize, chunk, chunks_from}
use Rattle.storage_current.specs.Grafted.{grafted_over}

-- the greatest number up to a bound that meets a test, else 0
unfoldable pub greatest : (ℕ → Bool) → ℕ → ℕ
greatest P zero = 0
greatest P (suc r) = if P (suc r) then suc r else greatest P r

-- ---- chunks over trees

-- a family, and the number of bytes of a chunk: a chunk has a bit for each of 8 * bytes operations
pub record Grafting : Type 0 where
  pub shape : Shape
  pub bytes : ℕ

abbrev pub grafting_of : Shape → ℕ → Grafting
grafting_of S n = record { shape = S; bytes = n }

pub record IsGrafting (g : Grafting) : Type 0 where
  pub laws : Laws g.shape
  pub size : IsChunkSize g.bytes

-- the height of a node over as many operations as a chunk has bits
unfoldable pub height : Grafting → ℕ
height g = greatest (λ k. leb (2 ^ k) (8 * g.bytes)) (8 * g.bytes)

-- how many chunks are complete over n operations, and how many have all their operations inside one peak: chunk j once its
-- node is born, which comes j * 2 ^ k operations after the birth of the first one's
abbrev pub complete : Grafting → ℕ → ℕ
complete g n = n / 2 ^ height g

abbrev pub graftable_at : Shape → ℕ → ℕ → ℕ
graftable_at S k n = if ltb n (S.birth 0 k) then 0 else (n - S.birth 0 k) / 2 ^ k + 1

abbrev pub graftable : Grafting → ℕ → ℕ
graftable g n = graftable_at g.shape (height g) n

-- the grafted view's layout: the chunk is grafted over each graftable chunk's node
abbrev pub view : Grafting → ℕ → Layout
view g n = record { shape = g.shape; position = g.shape.position; grafted = grafted_over (height g) (graftable g n) }

-- how many leading peaks over n leaves end at or before the floor; and how many such, the last of which ends on a multiple of 2 ^ k
abbrev pub exact : Shape → ℕ → ℕ → ℕ
exact S n floor = greatest (λ r. leb (leaves_under (take r (S.peaks n))) floor) (length (S.peaks n))

abbrev pub aligned : Shape → ℕ → ℕ → ℕ → ℕ
aligned S n floor k =
    greatest (λ r. leb (leaves_under (take r (S.peaks n))) floor && eqb (leaves_under (take r (S.peaks n)) % 2 ^ k) 0)
    (length (S.peaks n))

-- ---- snapshots

pub record Snapshot : Type 0 where
  pub operations : List (List ℕ)
  pub bits : List Bool
  pub floor : ℕ

pub record IsSnapshot (s : Snapshot) : Type 0 where
  pub bit_each : length s.bits ≡ length s.operations
  pub floor_within : s.floor ≤ length s.operations
  pub few : length s.operations ≤ max_leaves

-- what a canonical root is the digest of
abbrev pub slot : Option (List ℕ) → List ℕ
slot = or_nothing

abbrev pub counted_slot : ℕ → Option (List ℕ) → List ℕ
counted_slot next_bit None = []
counted_slot next_bit (Some digest) = be8 next_bit ++ digest

abbrev pub canonical_string : List ℕ → List ℕ → Option (List ℕ) → ℕ → Option (List ℕ) → List ℕ
canonical_string ops_root grafted_root pending next_bit partial =
    ops_root ++ (grafted_root ++ (slot pending ++ counted_slot next_bit partial))

module _ (h : HashFunction) (g : Grafting) (s : Snapshot) where
  -- the operations, and over each node of a chunk's height the chunk
  abbrev pub content : Content
  content = record { elements = s.operations; chunk = λ a. chunk g.bytes s.bits (a / 2 ^ height g) }

  abbrev pub exact_of : ℕ
  exact_of = exact g.shape (length s.operations) s.floor

  abbrev pub aligned_of : ℕ
  aligned_of = aligned g.shape (length s.operations) s.floor (height g)

  abbrev pub ops_root_of : List ℕ
  ops_root_of = tree_root h (ungrafted g.shape) BackwardFold (listed s.operations) exact_of

  abbrev pub grafted_root_of : List ℕ
  grafted_root_of = tree_root h (view g (length s.operations)) BackwardFold content aligned_of

  -- the complete chunk that isn't graftable, and the chunk after the complete ones
  abbrev pub pending_of : Option (List ℕ)
  pending_of = if ltb (graftable g (length s.operations)) (complete g (length s.operations))
      then Some (chunk g.bytes s.bits (graftable g (length s.operations))) else None

  abbrev pub partial_of : Option (List ℕ)
  partial_of = if eqb (length s.operations % 2 ^ height g) 0 then None
      else Some (chunk g.bytes s.bits (complete g (length s.operations)))

  abbrev pub snapshot_string : List ℕ
  snapshot_string = canonical_string ops_root_of grafted_root_of (option_map h pending_of)
      (length s.operations % 2 ^ height g) (option_map h partial_of)

  abbrev pub canonical_root : List ℕ
  canonical_root = h snapshot_string

  -- each string given to the digest function for the canonical root
  abbrev pub snapshot_strings : List (List ℕ)
  snapshot_strings = snapshot_string ∷ (tree_strings h (view g (length s.operations)) BackwardFold content aligned_of
      ++ (tree_strings h (ungrafted g.shape) BackwardFold (listed s.operations) exact_of
      ++ (option_to_list pending_of ++ option_to_list partial_of)))

  -- the digest of a node of the grafted view; some function answers it at a position
  abbrev pub view_node : ℕ → ℕ → List ℕ
  view_node a k = tree_node h (view g (length s.operations)) content a k

  abbrev pub IsServed : (ℕ → Option (List ℕ)) → ℕ → Type 0
  IsServed f position = (a k : ℕ) → IsNode g.shape position a k → f position ≡ Some (view_node a k)

-- ---- claims

-- the indices of the first and of the last chunk with a bit for one of `count` operations from `start` on
abbrev pub first_chunk : Grafting → ℕ → ℕ
first_chunk g start = start / 2 ^ height g

abbrev pub last_chunk : Grafting → ℕ → ℕ → ℕ
last_chunk g start count = (start + count - 1) / 2 ^ height g

-- some operations stand in a snapshot from `start` on, and these are their chunks
pub record Holds (g : Grafting) (s : Snapshot) (start : ℕ) (operations chunks : List (List ℕ)) : Type 0 where
  pub some : 0 < length operations
  pub there : StandAt s.operations start operations
  pub chunks_are : chunks ≡ chunks_from g.bytes s.bits
      (last_chunk g start (length operations) - first_chunk g start + 1) (first_chunk g start)

-- an operation stands at a location, and is active
pub record IsActive (s : Snapshot) (location : ℕ) (operation : List ℕ) : Type 0 where
  pub within : location < length s.operations
  pub there : get_or s.operations location [] ≡ operation
  pub bit : get_or s.bits location false ≡ true

-- ---- proofs, and the snapshot's own ones

-- a range proof, the digests of the pending and of the partial chunk, and the operations root
pub record RangeProof : Type 0 where
  pub range : Proof
  pub pending : Option (List ℕ)
  pub partial : Option (List ℕ)
  pub ops_root : List ℕ

-- a location, its chunk, and the proof of the one operation there
pub record OperationProof : Type 0 where
  pub location : ℕ
  pub chunk : List ℕ
  pub range : RangeProof

-- the parts of a canonical root beside the operations root: with the digest of the partial chunk goes how many bits it has
pub record Witness : Type 0 where
  pub grafted_root : List ℕ
  pub pending : Option (List ℕ)
  pub partial : Option (ℕ × List ℕ)

module _ (h : HashFunction) (g : Grafting) (s : Snapshot) where
  -- the proof of the operations from low to high - 1
  abbrev pub own_range_proof : ℕ → ℕ → RangeProof
  own_range_proof low high = record {
    range = own_proof h (view g (length s.operations)) BackwardFold (content h g s) (aligned_of h g s) low high;
    pending = option_map h (pending_of h g s);
    partial = option_map h (partial_of h g s);
    ops_root = ops_root_of h g s;
  }

  abbrev pub own_operation_proof : ℕ → OperationProof
  own_operation_proof location = record {
    location = location;
    chunk = chunk g.bytes s.bits (first_chunk g location);
    range = own_range_proof location (location + 1);
  }

  abbrev pub own_witness : Witness
  own_witness = record {
    grafted_root = grafted_root_of h g s;
    pending = option_map h (pending_of h g s);
    partial = option_map (λ c. (length s.operations % 2 ^ height g, h c)) (partial_of h g s);
  }
