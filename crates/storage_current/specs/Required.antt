-- The chunks that are read for a proof.
use Rattle.std.specs.Prelude.{◌≡◌, ◌≢◌, ℕ, ◌+◌, ◌%◌, ◌<◌, ◌≤◌, ◌^◌, ◌⊎◌, min, Option, Some}
use Rattle.storage_merkle.specs.declared.merkle.error.Error.TheVariants.{RangeOutOfBounds}
use Rattle.storage_ops.specs.declared.qmdb.error.Error.{Error}
use Rattle.storage_ops.specs.declared.qmdb.error.Error.TheVariants.{Merkle, OperationPruned}
use Rattle.storage_current.specs.KeptSnapshots.{IsCorrupted}
use Rattle.storage_current.specs.Snapshots.{Grafting, height, complete, graftable, first_chunk}

module _ (g : Grafting) (leaves bits : ℕ) where
  -- how many of the complete chunks of so many bits are graftable over so many leaves
  abbrev pub graftable_of : ℕ
  graftable_of = min (graftable g leaves) (complete g bits)

  -- at most one complete chunk is not graftable, and no such chunk is pruned
  pub record AreConsistent (pruned : ℕ) : Type 0 where
    pub one_pending : complete g bits ≤ graftable_of + 1
    pub kept : pruned ≤ graftable_of

  -- a location is among the leaves and the bits, and its chunk is not pruned
  pub record IsThere (pruned location : ℕ) : Type 0 where
    pub leaf : location < leaves
    pub bit : location < bits
    pub kept : pruned ≤ first_chunk g location

  -- a chunk is the partial one, the pending one, or that of the location
  abbrev pub IsRequired : Option ℕ → ℕ → Type 0
  IsRequired location j =
      ((bits % 2 ^ height g ≢ 0) × (j ≡ complete g bits))
      ⊎ ((graftable_of < complete g bits) × (j ≡ graftable_of))
      ⊎ ((l : ℕ) × (location ≡ Some l) × (j ≡ first_chunk g l))

  -- why these chunks are not told: the first reason that holds
  abbrev pub IsUntold : {F : Type 0} → ℕ → Option ℕ → Error F → Type 0
  IsUntold pruned location error =
      ((AreConsistent pruned → ⊥) × IsCorrupted error)
      ⊎ (AreConsistent pruned × ((l : ℕ) × (location ≡ Some l)
      × (((leaves ≤ l) ⊎ (bits ≤ l)) × (error ≡ Merkle (RangeOutOfBounds l))
      ⊎ (l < leaves) × (l < bits) × (first_chunk g l < pruned) × (error ≡ OperationPruned l))))
