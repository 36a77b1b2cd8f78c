-- How the refusals of the parts are told, and when a change is refused.
use Rattle.std.specs.Prelude.{◌≡◌, ℕ, Bool, true, false, Result, Ok, Err, MatchBool, if◌then◌else◌, length}
use Rattle.sqlite.specs.declared.error.Error.TheVariants.{SqliteFailure}
use Rattle.sqlite.specs.declared.error.ErrorCode.TheVariants.{TooBig}
use Rattle.storage_codec.specs.Digests.{HashFunction}
use Rattle.storage_current.specs.Keys.{Keyed}
use Rattle.storage_current.specs.Snapshots.{Grafting}
use Rattle.storage_db.specs.declared.db.error.Error as database
use Rattle.storage_db.specs.declared.db.error.Error.TheVariants as of_database
use Rattle.storage_db.specs.declared.db.ordered.opening.OpenError as opening
use Rattle.storage_db.specs.declared.db.ordered.opening.OpenError.TheVariants as of_open
use Rattle.storage_db.specs.Databases.{Command, Database, is_full}
use Rattle.storage_db.specs.Kept.{KeptDatabase, Keeps}
use Rattle.storage_file.specs.declared.error.Error as file
use Rattle.storage_file.specs.declared.error.Error.TheVariants as of_file
use Rattle.storage_stored.specs.declared.error.Error.{Error}
use Rattle.storage_stored.specs.declared.error.Error.TheVariants.{Foreign, Corrupted, Store, Stopped, NotCommitted, Absent, Present, Full, RangeOutOfBounds, Pruned, Memory}

abbrev pub told_of_database : {F : Type 0} → database.Error F → Error F
told_of_database of_database.NotCommitted = NotCommitted
told_of_database of_database.Absent = Absent
told_of_database of_database.Present = Present
told_of_database (of_database.Full count) = Full count
told_of_database (of_database.RangeOutOfBounds start) = RangeOutOfBounds start
told_of_database (of_database.Pruned start) = Pruned start
told_of_database of_database.Memory = Memory

abbrev pub told_of_open : {F : Type 0} → opening.OpenError F → Error F
told_of_open (of_open.NotALog place) = Corrupted
told_of_open of_open.Memory = Memory

abbrev pub told_of_file : {F : Type 0} → file.Error → Error F
told_of_file of_file.Foreign = Foreign
told_of_file of_file.Corrupted = Corrupted
told_of_file of_file.Full = Store (SqliteFailure TooBig)
told_of_file (of_file.Store error) = Store error
told_of_file of_file.Memory = Memory

-- there is an answer unless the database is lost
abbrev pub IsServed : {A F : Type 0} → Bool → Result A (Error F) → Type 0
IsServed lost (Ok answer) = lost ≡ false
IsServed lost (Err error) = (lost ≡ true) × (error ≡ Stopped)

module _ {K W Y : Type 0} (e : Keyed K W) (seen : W → Y) (h : HashFunction) (g : Grafting) where
  -- why a command is refused: the database has stopped; or the command is one too many; else want of memory
  abbrev pub IsChangeRefused : {F : Type 0} → Bool → KeptDatabase K W → Command K W → Error F → Type 0
  IsChangeRefused stopped old command error = MatchBool stopped (error ≡ Stopped) ((d : Database K W) → Keeps e seen h g old d
      → error ≡ (if is_full e d command then Full (length d.operations) else Memory))
