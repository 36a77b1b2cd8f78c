-- Databases whose first operations are forgotten.
use Rattle.std.specs.Prelude.{◌≡◌, ℕ, ◌*◌, ◌/◌, ◌^◌, ◌≤◌, min, max, List, length, nat_lt, MatchOption, IsSomeAnd, if◌then◌else◌}
use Rattle.storage_codec.specs.Digests.{HashFunction}
use Rattle.storage_current.specs.Keys.{Keyed}
use Rattle.storage_current.specs.KeptSnapshots.{StandsForSnapshot}
use Rattle.storage_current.specs.Snapshots.{Grafting, IsSnapshot, Snapshot, graftable, height}
use Rattle.storage_db.specs.declared.db.error.Error.{Error}
use Rattle.storage_db.specs.declared.db.error.Error.TheVariants.{Memory, NotCommitted, RangeOutOfBounds}
use Rattle.storage_db.specs.declared.db.log.Log.{Log}
use Rattle.storage_db.specs.Databases.{Database}
use Rattle.storage_db.specs.Kept.{HeldCommit, KeptDatabase, Keeps, forgetting, pruned_of}
use Rattle.storage_db.specs.Parts.{texts}

-- of so many operations, how many can be forgotten where those before a location are to be: those of the graftable chunks that end at
-- or before it
abbrev pub forgettable : Grafting → ℕ → ℕ → ℕ
forgettable g count location = min (location / 2 ^ height g) (graftable g count) * 2 ^ height g

-- why they are not: the location is behind the floor; else want of memory
abbrev pub IsPruneRefused : {F : Type 0} → ℕ → ℕ → Error F → Type 0
IsPruneRefused floor location error = error ≡ (if nat_lt floor location then RangeOutOfBounds location else Memory)

-- ---- the parts

-- the operations of a log of which the first are forgotten are those of which more are; all else is as it was
pub record LogForgets (old new : Log) (before after : ℕ) : Type 0 where
  pub texts_are : (all : List (List ℕ)) → texts old ≡ forgetting before all → after ≤ length all → texts new ≡ forgetting after all
  pub bits : new.bits.items ≡ old.bits.items
  pub committed : new.committed ≡ old.committed
  pub cleared : new.cleared.items ≡ old.cleared.items

-- of a commit those are forgotten that can be before a location; it stands for the same snapshot, and all else is as it was
pub record IsCommitPruned {W : Type 0} (h : HashFunction) (g : Grafting) (old new : HeldCommit W) (location : ℕ) : Type 0 where
  pub fits : location ≤ old.floor
  pub pruned : new.pruned ≡ max old.pruned (forgettable g old.snapshot.leaves location)
  pub chunks : new.snapshot.status.pruned * (8 * g.bytes) ≡ new.pruned
  pub same : new ≡ record old { pruned = new.pruned; snapshot = new.snapshot }
  pub stands : (s : Snapshot) → IsSnapshot s → StandsForSnapshot h g old.snapshot s → StandsForSnapshot h g new.snapshot s

-- of a log and its last commit
pub record ArePruned {W : Type 0} (h : HashFunction) (g : Grafting) (log after : Log) (old new : HeldCommit W) (location : ℕ) : Type 0 where
  pub commit : IsCommitPruned h g old new location
  pub forgets : LogForgets log after old.pruned new.pruned

-- ---- databases in memory

module _ {K W Y : Type 0} (e : Keyed K W) (seen : W → Y) (h : HashFunction) (g : Grafting) where
  -- those operations before a location are forgotten that can be, and the database is the same: there is a last commit, and the location
  -- is not behind its floor
  pub record IsPrunedOf (old new : KeptDatabase K W) (location : ℕ) (d : Database K W) : Type 0 where
    pub keeps : Keeps e seen h g new d
    pub last : IsSomeAnd d.last (λ commit. (location ≤ commit.snapshot.floor)
        × (pruned_of new.last ≡ max (pruned_of old.last) (forgettable g (length commit.snapshot.operations) location)))

  abbrev pub IsPruned : KeptDatabase K W → KeptDatabase K W → ℕ → Type 0
  IsPruned old new location = (d : Database K W) → Keeps e seen h g old d → IsPrunedOf old new location d

  -- why they are not: there is no commit; or the location is behind its floor; else want of memory
  abbrev pub IsNotPruned : {F : Type 0} → KeptDatabase K W → ℕ → Error F → Type 0
  IsNotPruned old location error = (d : Database K W) → Keeps e seen h g old d
      → MatchOption d.last (error ≡ NotCommitted) (λ commit. IsPruneRefused commit.snapshot.floor location error)
