-- Databases in memory, and how they keep what commands gave.
use Rattle.std.specs.Prelude.{◌≡◌, ℕ, ◌≤◌, Bool, false, List, [], ◌++◌, length, take, drop, replicate, Option, None, Some, MatchOption, IsSomeAnd, if◌then◌else◌}
use Rattle.std.specs.List.{AllZip}
use Rattle.storage_codec.specs.Digests.{HashFunction}
use Rattle.storage_current.specs.Keys.{Keyed}
use Rattle.storage_current.specs.KeptSnapshots.{KeptSnapshot, StandsForSnapshot}
use Rattle.storage_current.specs.Snapshots.{Grafting, IsSnapshot}
use Rattle.storage_db.specs.declared.db.active.Active.{Active}
use Rattle.storage_db.specs.declared.db.error.Error.{Error}
use Rattle.storage_db.specs.declared.db.error.Error.TheVariants.{Full, Memory}
use Rattle.storage_db.specs.Databases.{Committed, Database, Command, empty, done, is_full, run}

-- what is held of the last commit itself: its value and its floor, how many operations there are up to it, how many of the first are
-- forgotten, and the snapshot
pub record HeldCommit (W : Type 0) : Type 0 where
  pub metadata : Option W
  pub floor : ℕ
  pub count : ℕ
  pub pruned : ℕ
  pub snapshot : KeptSnapshot

-- what is kept of the last commit: that, and the active keys as they were, or copies of them
pub record KeptCommit (K W : Type 0) : Type 0 where
  pub metadata : Option W
  pub floor : ℕ
  pub count : ℕ
  pub pruned : ℕ
  pub entries : List (K × Active W)
  pub snapshot : KeptSnapshot

abbrev pub with_keys : {K W : Type 0} → HeldCommit W → List (K × Active W) → KeptCommit K W
with_keys commit entries = record {
  metadata = commit.metadata;
  floor = commit.floor;
  count = commit.count;
  pruned = commit.pruned;
  entries = entries;
  snapshot = commit.snapshot;
}

-- what the operations are written as, those that are forgotten as nothing, of each whether it is active, the active keys in their
-- order, and the last commit
pub record KeptDatabase (K W : Type 0) : Type 0 where
  pub operations : List (List ℕ)
  pub bits : List Bool
  pub entries : List (K × Active W)
  pub last : Option (KeptCommit K W)

-- how many of the first operations are forgotten
abbrev pub pruned_of : {K W : Type 0} → Option (KeptCommit K W) → ℕ
pruned_of None = 0
pruned_of (Some commit) = commit.pruned

-- what is kept of operations where so many of the first are forgotten: of those nothing
abbrev pub forgetting : ℕ → List (List ℕ) → List (List ℕ)
forgetting n operations = replicate n [] ++ drop n operations

-- of each operation up to a commit whether it is active: those that are forgotten are not
abbrev pub bits_of : {K W : Type 0} → KeptCommit K W → List Bool
bits_of commit = replicate commit.pruned false ++ commit.snapshot.status.bits

-- the operations of a commit are the first of these
abbrev pub AreFirst : {K W : Type 0} → List (List ℕ) → Committed K W → Type 0
AreFirst operations commit = commit.snapshot.operations ≡ take (length commit.snapshot.operations) operations

module _ {K W Y : Type 0} (e : Keyed K W) (seen : W → Y) where
  -- the second is written as the first and at the same location, and what is seen of its value is the same
  pub record IsCopy (entry copy : K × Active W) : Type 0 where
    pub key : e.key copy.0 ≡ e.key entry.0
    pub value : e.value copy.1.value ≡ e.value entry.1.value
    pub seen_value : seen copy.1.value ≡ seen entry.1.value
    pub location : copy.1.location ≡ entry.1.location

  module _ (h : HashFunction) (g : Grafting) where
    -- it is kept of this commit: what is forgotten stands before its floor
    pub record KeepsCommit (kept : KeptCommit K W) (commit : Committed K W) : Type 0 where
      pub metadata : kept.metadata ≡ commit.metadata
      pub floor : kept.floor ≡ commit.snapshot.floor
      pub count : kept.count ≡ length commit.snapshot.operations
      pub pruned : kept.pruned ≤ commit.snapshot.floor
      pub entries : AllZip IsCopy commit.entries kept.entries
      pub whole : IsSnapshot commit.snapshot
      pub snapshot : StandsForSnapshot h g kept.snapshot commit.snapshot
      pub bits : bits_of kept ≡ commit.snapshot.bits

    -- it is this database in memory
    pub record Keeps (kept : KeptDatabase K W) (d : Database K W) : Type 0 where
      pub operations : kept.operations ≡ forgetting (pruned_of kept.last) d.operations
      pub bits : kept.bits ≡ d.bits
      pub entries : kept.entries ≡ d.entries
      pub last : MatchOption d.last (kept.last ≡ None) (λ commit. IsSomeAnd kept.last (λ c. KeepsCommit c commit))
      pub prefix : MatchOption d.last (Unit {0}) (AreFirst d.operations)

    -- Some list of commands, given to the empty database, leaves it.
    abbrev pub IsMade : KeptDatabase K W → Type 0
    IsMade kept = (commands : List (Command K W)) × Keeps kept (run e empty commands)

    -- The command is not one too many, and leaves what it gives. It forgets nothing.
    abbrev pub IsDone : KeptDatabase K W → KeptDatabase K W → Command K W → Type 0
    IsDone old new command = (d : Database K W) → Keeps old d
        → (is_full e d command ≡ false) × Keeps new (done e d command) × (pruned_of new.last ≡ pruned_of old.last)

    -- why a command is refused: it is one too many, else want of memory
    abbrev pub IsCommandRefused : {F : Type 0} → KeptDatabase K W → Command K W → Error F → Type 0
    IsCommandRefused old command error = (d : Database K W) → Keeps old d
        → error ≡ (if is_full e d command then Full (length d.operations) else Memory)
