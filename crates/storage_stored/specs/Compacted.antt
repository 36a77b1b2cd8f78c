-- Stored databases whose oldest active updates are put again, in memory.
use Rattle.std.specs.Prelude.{◌≡◌, ℕ, Bool, MatchBool, List}
use Rattle.sqlite.specs.Store.{Ghosts}
use Rattle.storage_codec.specs.Digests.{HashFunction}
use Rattle.storage_current.specs.Keys.{Keyed}
use Rattle.storage_current.specs.Snapshots.{Grafting}
use Rattle.storage_db.specs.Compacting.{IsCompacted, IsStopped}
use Rattle.storage_db.specs.Databases.{Command, Database, run}
use Rattle.storage_db.specs.Kept.{KeptDatabase, Keeps}
use Rattle.storage_db.specs.declared.db.ordered.compact.CompactError as database
use Rattle.storage_db.specs.declared.db.ordered.compact.CompactError.TheVariants as of_database
use Rattle.storage_file.specs.declared.journal.Journal.{Journal}
use Rattle.storage_stored.specs.declared.compacting.CompactError.{CompactError}
use Rattle.storage_stored.specs.declared.compacting.CompactError.TheVariants.{NotRead, Refused}
use Rattle.storage_stored.specs.declared.error.Error.TheVariants.{Stopped}
use Rattle.storage_stored.specs.Refusals.{told_of_database}
use Rattle.storage_stored.specs.Stored.{ShowsLast, Stores}

abbrev pub told_of_compact : {F : Type 0} → database.CompactError F → CompactError F
told_of_compact (of_database.NotRead location) = NotRead location
told_of_compact (of_database.Refused error) = Refused (told_of_database error)

module _ {K W Y S : Type 0} (e : Keyed K W) (seen : W → Y) (h : HashFunction) (g : Grafting) (store : Ghosts S) where
  -- tables that show a database at its last commit show the one in memory at its own, after these commands
  abbrev pub StoresAfter : Journal S → KeptDatabase K W → Database K W → List (Command K W) → Type 0
  StoresAfter journal kept d commands = ShowsLast h g store journal d.last → Stores e seen h g store journal kept (run e d commands)

  -- of at most `count`, so many of the oldest active updates of a database have been put again
  pub record IsStoredCompacted (journal : Journal S) (d : Database K W) (count : ℕ) (kept : KeptDatabase K W) (moved : ℕ) : Type 0 where
    pub is : IsCompacted e seen h g d count kept moved
    pub stores : StoresAfter journal kept d is.are.commands

  module _ (reads : List ℕ → Command K W → Type 0) where
    -- fewer have been put again, and the next one is left, for the reason that is told
    pub record IsStoredStopped {F : Type 0} (journal : Journal S) (d : Database K W) (count : ℕ) (kept : KeptDatabase K W) (error : CompactError F) : Type 0 where
      pub cause : database.CompactError F
      pub told : error ≡ told_of_compact cause
      pub is : IsStopped e reads seen h g d count kept cause
      pub stores : StoresAfter journal kept d is.are.commands

    -- why fewer: the database takes no changes, and is as it was; or so
    abbrev pub IsCompactRefused : {F : Type 0} → Bool → Journal S → KeptDatabase K W → ℕ → KeptDatabase K W → CompactError F → Type 0
    IsCompactRefused stopped journal old count kept error = MatchBool stopped ((error ≡ Refused Stopped) × (kept ≡ old))
        ((d : Database K W) → Keeps e seen h g old d → IsStoredStopped journal d count kept error)
