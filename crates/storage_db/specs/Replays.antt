-- A database that is made again from its operations, one after the other.
use Rattle.std.specs.Prelude.{◌≡◌, ℕ, ◌<◌, Bool, true, false, List, [], ◌++◌, length, Option, None, Some, is_some, option_map, MatchBool, MatchOption}
use Rattle.storage_current.specs.Keys.{Keyed}
use Rattle.storage_db.specs.declared.db.active.Active.{Active}
use Rattle.storage_db.specs.declared.db.log.Log.{Log}
use Rattle.storage_db.specs.Databases.{Command, Commit, Database, Delete, Put, active_at, done, empty, is_full, run}
use Rattle.storage_db.specs.Opening.{AreRead}
use Rattle.storage_db.specs.Parts.{database_of}

-- what was found passes; where nothing was found, nothing does
abbrev pub IsFoundBy : {X : Type 0} → (X → Type 0) → Option X → Type 0
IsFoundBy {X} passes found = MatchOption found ((x : X) → passes x → ⊥) passes

module _ {K W : Type 0} (e : Keyed K W) where
  -- a command that has an operation of its own to append: a deletion has none where its key is not active
  abbrev pub HasOwn : Database K W → Command K W → Type 0
  HasOwn d (Put key value) = Unit {0}
  HasOwn d (Delete key) = is_some (active_at e d.entries key) ≡ true
  HasOwn d (Commit metadata) = Unit {0}

  -- a command that appends, and is not one too many
  pub record IsDoing (d : Database K W) (command : Command K W) : Type 0 where
    pub few : is_full e d command ≡ false
    pub own : HasOwn d command

-- the floor of the last commit; that of all operations, where there is none
abbrev pub floor_kept : {W : Type 0} → Option (Option W × ℕ) → ℕ
floor_kept None = 0
floor_kept (Some kept) = kept.1

-- A log, active keys, and the value and the floor of the last commit are those of a database. Where nothing is uncommitted no cleared bit
-- is told.
pub record IsReplayOf {K W : Type 0} (log : Log) (entries : List (K × Active W)) (last : Option (Option W × ℕ)) (d : Database K W)
    : Type 0 where
  pub is : database_of log entries d.last ≡ d
  pub last_is : MatchOption d.last ((log.committed ≡ 0) × (last ≡ None)) (λ commit. (0 < log.committed)
      × (length commit.snapshot.operations ≡ log.committed) × (last ≡ Some (commit.metadata, commit.snapshot.floor)))
  pub settled : log.committed ≡ length log.operations.items → log.cleared.items ≡ []

module _ {K W : Type 0} (e : Keyed K W) (log : Log) (entries : List (K × Active W)) (last : Option (Option W × ℕ)) where
  -- some commands leave the database that they are of
  pub record IsRemade : Type 0 where
    pub commands : List (Command K W)
    pub replay : IsReplayOf log entries last (run e empty commands)

  -- whether the command was done: it appends and is not one too many; else it is none that does
  abbrev pub IsDoneOr : Database K W → Command K W → Bool → Type 0
  IsDoneOr d command did =
      MatchBool did (IsDoing e d command × IsReplayOf log entries last (done e d command)) (IsDoing e d command → ⊥)

  module _ (reads : List ℕ → Command K W → Type 0) where
    -- whether a command was done that is read from an operation: else none that is read from it can be done
    abbrev pub IsFollowedBy : Database K W → List ℕ → Bool → Type 0
    IsFollowedBy d operation did = MatchBool did
        ((command : Command K W) × reads operation command × IsDoing e d command
        × IsReplayOf log entries last (done e d command))
        ((command : Command K W) → reads operation command → IsDoing e d command → ⊥)

module _ {K W : Type 0} (e : Keyed K W) (reads : List ℕ → Command K W → Type 0) where
  -- Commands that are read leave a database whose operations begin with these; and so do those of any other commands that are read and
  -- leave operations that begin with these.
  pub record IsPath (operations : List (List ℕ)) (d : Database K W) : Type 0 where
    pub commands : List (Command K W)
    pub read : AreRead e reads empty commands
    pub leave : run e empty commands ≡ d
    pub rest : List (List ℕ)
    pub begins : d.operations ≡ operations ++ rest
    pub forced : (others : List (Command K W)) (more : List (List ℕ)) → AreRead e reads empty others
        → (run e empty others).operations ≡ operations ++ more
        → (further : List (List ℕ)) × ((run e empty others).operations ≡ d.operations ++ further)

  -- a log, active keys and the last commit's value and floor are those of a database that these operations begin
  pub record IsOnPath (log : Log) (entries : List (K × Active W)) (last : Option (Option W × ℕ)) (operations : List (List ℕ)) : Type 0 where
    pub database : Database K W
    pub path : IsPath operations database
    pub replay : IsReplayOf log entries last database

-- ---- commands that are alike

module _ {K W Y : Type 0} (e : Keyed K W) (seen : W → Y) where
  -- commands of one kind, whose keys and values are written alike, and whose values are seen alike
  abbrev pub IsAlike : Command K W → Command K W → Type 0
  IsAlike (Put k v) (Put l w) = (e.key l ≡ e.key k) × (e.value w ≡ e.value v) × (seen w ≡ seen v)
  IsAlike (Put k v) (Delete l) = ⊥
  IsAlike (Put k v) (Commit n) = ⊥
  IsAlike (Delete k) (Put l w) = ⊥
  IsAlike (Delete k) (Delete l) = e.key l ≡ e.key k
  IsAlike (Delete k) (Commit n) = ⊥
  IsAlike (Commit m) (Put l w) = ⊥
  IsAlike (Commit m) (Delete l) = ⊥
  IsAlike (Commit m) (Commit n) = (option_map e.value n ≡ option_map e.value m) × (option_map seen n ≡ option_map seen m)

  -- what is read from the same bytes is alike
  abbrev pub AreReadAlike : (List ℕ → Command K W → Type 0) → Type 0
  AreReadAlike reads = (bytes : List ℕ) (x y : Command K W) → reads bytes x → reads bytes y → IsAlike x y
