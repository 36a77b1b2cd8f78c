-- Snapshots that grow: operations are appended, each with its bit, earlier ones are made inactive, and the floor is set.
use Rattle.std.specs.Prelude.{◌≡◌, ◌≢◌, ℕ, ◌+◌, ◌-◌, ◌*◌, ◌/◌, ◌^◌, ◌<◌, ◌≤◌, ◌⊎◌, ◌++◌, Bool, false, List, [], ◌∷◌, length, min, get_or, slice_set, All}
use Rattle.std.specs.List.{Contains}
use Rattle.storage_codec.specs.Digests.{HashFunction}
use Rattle.storage_merkle.specs.declared.merkle.error.Error.TheVariants.{RangeOutOfBounds, LocationOverflow}
use Rattle.storage_merkle.specs.Kept.{IsFirstAway, Kept}
use Rattle.storage_merkle.specs.Shape.{max_leaves}
use Rattle.storage_ops.specs.declared.qmdb.error.Error.{Error}
use Rattle.storage_ops.specs.declared.qmdb.error.Error.TheVariants.{Merkle, Memory, OperationPruned}
use Rattle.storage_bitmap.specs.Chunks.{IsRest, Retained}
use Rattle.storage_current.specs.KeptSnapshots.{IsCorrupted}
use Rattle.storage_current.specs.KeptTrees.{StandsForChunks}
use Rattle.storage_current.specs.NodeLists.{IsOver}
use Rattle.storage_current.specs.Snapshots.{Grafting, Snapshot, height, view_node}

-- the bits, with those at some locations cleared
abbrev pub cleared : List ℕ → List Bool → List Bool
cleared [] bits = bits
cleared (l ∷ ls) bits = cleared ls (slice_set bits l false)

-- the bits from a location on, with those at some locations cleared
abbrev pub cleared_from : ℕ → List ℕ → List Bool → List Bool
cleared_from start [] bits = bits
cleared_from start (l ∷ ls) bits = cleared_from start ls (slice_set bits (l - start) false)

abbrev pub extended : Snapshot → List (List ℕ) → List Bool → List ℕ → ℕ → Snapshot
extended s operations bits clear floor = record {
  operations = s.operations ++ operations;
  bits = cleared clear s.bits ++ bits;
  floor = floor;
}

-- the locations to clear are of so many operations, from the first that is not pruned on, and the floor is within them and so many more
pub record AreWithin (start count more : ℕ) (clear : List ℕ) (floor : ℕ) : Type 0 where
  pub earlier : All (λ l. (start ≤ l) × (l < count)) clear
  pub inside : floor ≤ count + more

-- why a location to clear is refused
abbrev pub IsAwayRefused : {F : Type 0} → ℕ → ℕ → ℕ → Error F → Type 0
IsAwayRefused start count away error =
    ((count ≤ away) × (error ≡ Merkle (RangeOutOfBounds away))) ⊎ ((away < start) × (error ≡ OperationPruned away))

-- why a snapshot of so many operations, pruned up to a location, is not extended by so many with so many bits: the first reason that
-- holds, else want of memory
abbrev pub IsExtensionRefused : {F : Type 0} → ℕ → ℕ → ℕ → ℕ → List ℕ → ℕ → Error F → Type 0
IsExtensionRefused start count more bits clear floor error =
    ((bits ≢ more) × IsCorrupted error)
    ⊎ ((bits ≡ more) × ((away : ℕ) × IsFirstAway count start clear away × IsAwayRefused start count away error))
    ⊎ ((bits ≡ more) × All (λ l. (start ≤ l) × (l < count)) clear × (count + more < floor) × (error ≡ Merkle (RangeOutOfBounds floor)))
    ⊎ ((bits ≡ more) × AreWithin start count more clear floor × (max_leaves < count + more)
    × (error ≡ Merkle (LocationOverflow (min (count + more) 18446744073709551615))))
    ⊎ ((bits ≡ more) × AreWithin start count more clear floor × (count + more ≤ max_leaves) × (error ≡ Memory))

-- ---- which chunks change

-- a chunk has a bit at one of the locations
abbrev pub HasBitAt : ℕ → List ℕ → ℕ → Type 0
HasBitAt g locations chunk = (l : ℕ) × Contains locations l × (l / 2 ^ g ≡ chunk)

-- these are the chunks of the first so many that have a bit at one of the locations
pub record AreTouched (g count : ℕ) (locations touched : List ℕ) : Type 0 where
  pub some : All (λ j. (j < count) × HasBitAt g locations j) touched
  pub each : (l : ℕ) → Contains locations l → l / 2 ^ g < count → Contains touched (l / 2 ^ g)

-- A tree over chunks is over as many as a list has, where the touched ones are the grafts of each snapshot with these bits whose
-- operations the other tree is over, and the others are as they were.
pub record HasRegrafted {D : Type 0} (bytes_of : D → List ℕ) (h : HashFunction) (g : Grafting) (operations chunks : Kept D)
    (status : Retained) (touched : List ℕ) (list : List (List ℕ)) : Type 0 where
  pub now : List (List ℕ)
  pub stands : StandsForChunks bytes_of h g chunks now
  pub count : length now ≡ length list
  pub are : (s : Snapshot) → IsRest g.bytes status s.bits → IsOver bytes_of h g.shape operations s.operations → (j : ℕ) → j < length list
      → ((Contains touched j → ⊥) → get_or list j [] ≡ view_node h g s (j * 2 ^ height g) (height g))
      → get_or now j [] ≡ view_node h g s (j * 2 ^ height g) (height g)
