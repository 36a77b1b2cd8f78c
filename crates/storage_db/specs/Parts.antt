-- The parts of a database in memory, and how an active update moves.
use Rattle.std.specs.Prelude.{◌≡◌, ℕ, ◌-◌, ◌<◌, Bool, true, List, ◌++◌, length, map, drop, Option, Some, None, is_some, option_map, MatchOption}
use Rattle.std.specs.Global.{Vec}
use Rattle.std.specs.List.{AllZip}
use Rattle.std.specs.BTreeMap.{is_at}
use Rattle.std.specs.Map.{lookup, set_value}
use Rattle.std.specs.declared.cmp.Ordering.{Ordering}
use Rattle.storage_codec.specs.Digests.{HashFunction}
use Rattle.storage_current.specs.Keys.{Keyed}
use Rattle.storage_current.specs.KeptSnapshots.{StandsForSnapshot}
use Rattle.storage_current.specs.Snapshots.{Grafting, Snapshot, IsSnapshot}
use Rattle.storage_db.specs.declared.db.active.Active.{Active}
use Rattle.storage_db.specs.declared.db.active.ActiveKeys.{ActiveKeys}
use Rattle.storage_db.specs.declared.db.log.Log.{Log}
use Rattle.storage_db.specs.Databases.{Committed, Database}
use Rattle.storage_db.specs.Kept.{HeldCommit, IsCopy, KeptCommit, KeptDatabase, bits_of, pruned_of, with_keys}
use Rattle.storage_db.specs.Notes.{AreAlike, taken_back}
use Rattle.storage_db.specs.Logs.{AreCommitted, cleared_at}

-- what the operations of a log are written as
abbrev pub texts : Log → List (List ℕ)
texts log = map (λ v. v.items) log.operations.items

-- the bits of the last commit's operations are these, with those cleared that a log tells
abbrev pub AreLast : Log → List Bool → Type 0
AreLast log base = AreCommitted log.committed log.cleared.items log.bits.items base

-- A log goes on from an old one: its operations stand behind the old one's, the last commit is the same, and it tells which of its bits
-- have been cleared, if the old one does.
pub record GoesOn (old new : Log) : Type 0 where
  pub more : List (Vec ℕ)
  pub operations : new.operations.items ≡ old.operations.items ++ more
  pub committed : new.committed ≡ old.committed
  pub cleared : (base : List Bool) → AreLast old base → AreLast new base

-- a log has as many operations of a commit as that has, itself among them, and tells which of its bits have been cleared since
pub record IsSinceCommit {K W : Type 0} (log : Log) (commit : KeptCommit K W) : Type 0 where
  pub some : 0 < commit.count
  pub committed : log.committed ≡ commit.count
  pub cleared : AreLast log (bits_of commit)

abbrev pub IsSince : {K W : Type 0} → Log → Option (KeptCommit K W) → Type 0
IsSince log last = MatchOption last (Unit {0}) (IsSinceCommit log)

-- the entries of the last commit, by the active keys and the notes
abbrev pub committed_of : {K W : Type 0} → (K → K → Ordering) → ActiveKeys K W → List (K × Active W)
committed_of cmp active = taken_back cmp active.present.entries active.notes.entries

-- what is kept of the last commit, if there is one, with those entries
abbrev pub kept_with : {K W : Type 0} → (K → K → Ordering) → ActiveKeys K W → Option (HeldCommit W) → Option (KeptCommit K W)
kept_with {K} {W} cmp active last = option_map (λ (commit : HeldCommit W). with_keys commit (committed_of cmp active)) last

-- what the last commit had stays
abbrev pub StayCommitted : {K W : Type 0} → (K → K → Ordering) → ActiveKeys K W → ActiveKeys K W → Type 0
StayCommitted cmp old new = AreAlike cmp (committed_of cmp old) (committed_of cmp new)

-- a key is noted; those that are stay so
abbrev pub is_noted : {K W : Type 0} → (K → K → Ordering) → ActiveKeys K W → K → Bool
is_noted cmp active key = is_some (lookup (is_at (cmp key)) active.notes.entries)

abbrev pub StayNoted : {K W : Type 0} → (K → K → Ordering) → ActiveKeys K W → ActiveKeys K W → Type 0
StayNoted {K} cmp old new = (key : K) → is_noted cmp old key ≡ true → is_noted cmp new key ≡ true

-- the database of a log and active keys, with this last commit
abbrev pub database_of : {K W : Type 0} → Log → List (K × Active W) → Option (Committed K W) → Database K W
database_of log entries last = record {
  operations = texts log;
  bits = log.bits.items;
  entries = entries;
  last = last;
}

-- what a database in memory keeps, of its log, its active keys and its last commit
abbrev pub kept_of : {K W : Type 0} → Log → List (K × Active W) → Option (KeptCommit K W) → KeptDatabase K W
kept_of log entries last = record {
  operations = texts log;
  bits = log.bits.items;
  entries = entries;
  last = last;
}

-- the entries, where the active update of the key that a test finds, its value kept, stands at this location from now on
abbrev pub moved_to : {K W : Type 0} → Option (Active W) → (K → Bool) → List (K × Active W) → ℕ → List (K × Active W)
moved_to None test entries location = entries
moved_to (Some active) test entries location =
    set_value test entries (record { value = active.value; location = location })

abbrev pub moved : {K W : Type 0} → (K → Bool) → List (K × Active W) → ℕ → List (K × Active W)
moved test entries location = moved_to (lookup test entries) test entries location

-- ---- a commit that has been made

-- where a commit stands
abbrev pub place_of : {K W : Type 0} → Option (KeptCommit K W) → Option ℕ
place_of {K} {W} before = option_map (λ (commit : KeptCommit K W). commit.count - 1) before

-- a commit that is kept stands for a well-formed snapshot, and has the bits of that
abbrev pub IsKeptOf : {K W : Type 0} → HashFunction → Grafting → KeptCommit K W → Snapshot → Type 0
IsKeptOf h g commit s = IsSnapshot s × StandsForSnapshot h g commit.snapshot s × (bits_of commit ≡ s.bits)

module _ {K W Y : Type 0} (e : Keyed K W) (seen : W → Y) (h : HashFunction) (g : Grafting) where
  -- A commit that is kept is that of the last operation of a log, with this value and floor, and of the commit before it the bit is
  -- cleared. As many operations are forgotten as were before. It stands for the snapshot of the operations; where there was a commit
  -- before it, of those of the snapshot that it stood for and of those behind them.
  pub record IsCommitOf (log : Log) (entries : List (K × Active W)) (before : Option (KeptCommit K W)) (metadata : Option W)
      (floor : ℕ) (commit : KeptCommit K W) : Type 0 where
    pub metadata_is : commit.metadata ≡ metadata
    pub floor_is : commit.floor ≡ floor
    pub count : commit.count ≡ length log.operations.items
    pub pruned : commit.pruned ≡ pruned_of before
    pub copies : AllZip (IsCopy e seen) entries commit.entries
    pub snapshot : let s : List (List ℕ) → Snapshot = λ operations. record {
      operations = operations;
      bits = cleared_at (place_of before) log.bits.items;
      floor = floor;
    } in
        MatchOption before (IsKeptOf h g commit (s (texts log))) (λ b. (t : Snapshot) → IsKeptOf h g b t
        → length t.operations ≡ log.committed → IsKeptOf h g commit (s (t.operations ++ drop log.committed (texts log))))
