-- Databases whose oldest active updates are put again, so that the floor of the next commit rises.
use Rattle.std.specs.Prelude.{◌≡◌, ℕ, ◌+◌, ◌<◌, ◌≤◌, false, List, [], ◌∷◌, length, Option, None, Some, nat_lt, slice_get}
use Rattle.storage_codec.specs.Digests.{HashFunction}
use Rattle.storage_merkle.specs.Shape.{max_leaves}
use Rattle.storage_current.specs.Keys.{Keyed}
use Rattle.storage_current.specs.Snapshots.{Grafting}
use Rattle.storage_db.specs.declared.db.active.Active.{Active}
use Rattle.storage_db.specs.declared.db.ordered.compact.CompactError.{CompactError}
use Rattle.storage_db.specs.declared.db.ordered.compact.CompactError.TheVariants.{NotRead, Refused}
use Rattle.storage_db.specs.Databases.{Command, Database, Put, active_at, done, empty, is_full, least_location, run, value_at}
use Rattle.storage_db.specs.Kept.{IsDone, KeptDatabase, Keeps}
use Rattle.storage_db.specs.Logs.{IsTooMany}

-- where the oldest active update of a database stands; the end of its operations, where no key is active
abbrev pub oldest : {K W : Type 0} → Database K W → ℕ
oldest d = least_location d.entries (length d.operations)

module _ {K W : Type 0} (e : Keyed K W) where
  -- this is the active update of a key, and it stands at a location
  pub record StandsAt (entries : List (K × Active W)) (key : K) (location : ℕ) (active : Active W) : Type 0 where
    pub there : active_at e entries key ≡ Some active
    pub at : active.location ≡ location

  -- the command puts again the active update that stands at a location: its key with the value that the key has
  pub record PutsAgain (entries : List (K × Active W)) (location : ℕ) (command : Command K W) : Type 0 where
    pub key : K
    pub active : Active W
    pub stands : StandsAt entries key location active
    pub is : command ≡ Put key active.value

  -- Each of these commands, given one after the other, puts the oldest active update again, and is not one too many.
  abbrev pub AreOldest : Database K W → List (Command K W) → Type 0
  AreOldest d [] = Unit {0}
  AreOldest d (command ∷ commands) =
      PutsAgain d.entries (oldest d) command × (is_full e d command ≡ false) × AreOldest (done e d command) commands

  -- what such commands keep of a database: the values of its keys and its last commit; and the oldest active update stands past all
  -- that were put again
  pub record IsCompact (d c : Database K W) (count : ℕ) : Type 0 where
    pub values : (key : K) → value_at e c.entries key ≡ value_at e d.entries key
    pub last : c.last ≡ d.last
    pub past : oldest d + count ≤ oldest c

  -- Whatever commands were given, and then such.
  abbrev pub EachCompactionIsKept : Type 0
  EachCompactionIsKept = (commands more : List (Command K W)) → let d = run e empty commands in
      AreOldest d more → IsCompact d (run e d more) (length more)

  module _ {Y : Type 0} (seen : W → Y) (h : HashFunction) (g : Grafting) where
    -- so many of the oldest active updates of a database have been put again, which leaves this one in memory
    pub record AreMoved (d : Database K W) (moved : ℕ) (kept : KeptDatabase K W) : Type 0 where
      pub commands : List (Command K W)
      pub oldest : AreOldest d commands
      pub count : length commands ≡ moved
      pub keeps : Keeps e seen h g kept (run e d commands)

    -- of at most `count`, so many; fewer only once each active update stands behind the operations that there were
    pub record IsCompacted (d : Database K W) (count : ℕ) (kept : KeptDatabase K W) (moved : ℕ) : Type 0 where
      pub are : AreMoved d moved kept
      pub most : moved ≤ count
      pub fewer : moved < count → length d.operations ≤ least_location kept.entries (length kept.operations)

    -- the oldest active update of a database in memory, which stood at a location, has been put again
    pub record IsMovedOnce (old new : KeptDatabase K W) (location : ℕ) : Type 0 where
      pub at : location ≡ least_location old.entries (length old.operations)
      pub command : Command K W
      pub again : PutsAgain old.entries location command
      pub is_done : IsDone e seen h g old new command
      pub next : location < least_location new.entries (length new.operations)
      pub more : length old.operations ≤ length new.operations

    -- so, where it stood before an end; else nothing is changed
    abbrev pub IsNext : KeptDatabase K W → KeptDatabase K W → ℕ → Option ℕ → Type 0
    IsNext old new end None = (new ≡ old) × (end ≤ least_location old.entries (length old.operations))
    IsNext old new end (Some location) = IsMovedOnce old new location × (location < end)

    -- so many have been put again since a database in memory, and none before `from` is active any more
    pub record IsSoFar (old kept : KeptDatabase K W) (moved from : ℕ) : Type 0 where
      pub are : (d : Database K W) → Keeps e seen h g old d → AreMoved d moved kept
      pub low : from ≤ least_location kept.entries (length kept.operations)
      pub more : length old.operations ≤ length kept.operations

  -- `reads` is true of bytes and a command that is read from them
  module _ (reads : List ℕ → Command K W → Type 0) where
    -- no update of the key whose active one stands at the location is read from the operation there
    abbrev pub IsUnread : Database K W → ℕ → Type 0
    IsUnread d location = (operation : List ℕ) → slice_get d.operations location ≡ Some operation
        → (key : K) (active : Active W) → StandsAt d.entries key location active → (value : W) → reads operation (Put key value) → ⊥

    -- why the active update at a location is not put again: there are as many operations as a tree may have; else it is not read;
    -- else want of memory
    abbrev pub IsNotMoved : {F : Type 0} → Database K W → ℕ → CompactError F → Type 0
    IsNotMoved d location (NotRead place) =
        (place ≡ location) × (nat_lt max_leaves (length d.operations + 1) ≡ false) × IsUnread d location
    IsNotMoved d location (Refused error) = IsTooMany (length d.operations) (length d.operations + 1) error

    module _ {Y : Type 0} (seen : W → Y) (h : HashFunction) (g : Grafting) where
      -- the oldest active update stands before an end and is left there, for this reason; nothing is changed
      pub record IsLeft {F : Type 0} (old new : KeptDatabase K W) (end : ℕ) (error : CompactError F) : Type 0 where
        pub same : new ≡ old
        pub before : least_location old.entries (length old.operations) < end
        pub why : (d : Database K W) → Keeps e seen h g old d → IsNotMoved d (oldest d) error

      -- of `count`, fewer have been put again, and the next one is left, for this reason
      pub record IsStopped {F : Type 0} (d : Database K W) (count : ℕ) (kept : KeptDatabase K W) (error : CompactError F) : Type 0 where
        pub moved : ℕ
        pub fewer : moved < count
        pub are : AreMoved seen h g d moved kept
        pub left : least_location kept.entries (length kept.operations) < length d.operations
        pub why : (c : Database K W) → Keeps e seen h g kept c → IsNotMoved c (oldest c) error
