-- A database whose commits are kept in tables.
use Rattle.std.specs.Prelude.{◌≡◌, ℕ, ◌-◌, false, List, [], length, take, slice_get, Option, None, Some, IsSome, option_map, MatchOption, IsSomeAnd}
use Rattle.sqlite.specs.Store.{Ghosts}
use Rattle.sqlite.specs.Tree.{Trees}
use Rattle.storage_codec.specs.Digests.{HashFunction}
use Rattle.storage_current.specs.Keys.{Keyed}
use Rattle.storage_current.specs.Snapshots.{Grafting, canonical_root}
use Rattle.storage_db.specs.Databases.{Command, Committed, Database, done, is_full}
use Rattle.storage_db.specs.Kept.{KeptDatabase, Keeps}
use Rattle.storage_db.specs.Opening.{IsCommitted}
use Rattle.storage_file.specs.declared.journal.Journal.{Journal}
use Rattle.storage_file.specs.Journals.{IsOf}
use Rattle.storage_file.specs.Kept.{Commit, Kept}
use Rattle.storage_file.specs.Tables.{Holds}

-- the operations up to the last commit
abbrev pub committed_operations : {K W : Type 0} → Option (Committed K W) → List (List ℕ)
committed_operations None = []
committed_operations (Some commit) = commit.snapshot.operations

module _ (h : HashFunction) (g : Grafting) where
  -- the row of a commit: its location, its floor and its canonical root
  pub record IsRowOf {K W : Type 0} (row : Commit) (commit : Committed K W) : Type 0 where
    pub location : row.location ≡ length commit.snapshot.operations - 1
    pub floor : row.floor ≡ commit.snapshot.floor
    pub root : row.root ≡ canonical_root h g commit.snapshot

  -- a row, if there is one, is that of the last commit, if there is one
  abbrev pub IsLastRow : {K W : Type 0} → Option Commit → Option (Committed K W) → Type 0
  IsLastRow row last = MatchOption last (row ≡ None) (λ commit. IsSomeAnd row (λ it. IsRowOf it commit))

  -- the last commit, if there is one, has this floor and this root; or there is none of them
  pub record IsAt {K W : Type 0} (low : Option ℕ) (top : Option (List ℕ)) (last : Option (Committed K W)) : Type 0 where
    pub floor : low ≡ option_map (λ commit. commit.snapshot.floor) last
    pub root : top ≡ option_map (λ commit. canonical_root h g commit.snapshot) last

  -- The lists are those of a database at its last commit: the operations up to it, and its row is the last one.
  pub record AreListsOf {K W : Type 0} (lists : Kept) (last : Option (Committed K W)) : Type 0 where
    pub operations : lists.operations ≡ committed_operations last
    pub row : IsLastRow (slice_get lists.commits (length lists.commits - 1)) last

  -- a disk holds the tables of a database at its last commit
  pub record HoldsLast {K W : Type 0} (db : Trees) (last : Option (Committed K W)) : Type 0 where
    pub lists : Kept
    pub holds : Holds db lists
    pub are : AreListsOf lists last

  -- the tables of a journal show a database at its last commit
  pub record ShowsLast {S K W : Type 0} (store : Ghosts S) (journal : Journal S) (last : Option (Committed K W)) : Type 0 where
    pub lists : Kept
    pub shown : IsOf store journal lists
    pub are : AreListsOf lists last

-- All of a database is committed, and it goes on from the operations that a journal keeps.
pub record IsAhead {K W : Type 0} (lists : Kept) (d : Database K W) : Type 0 where
  pub some : IsSome d.last
  pub committed : IsCommitted d
  pub first : lists.operations ≡ take (length lists.operations) d.operations

module _ {K W Y S : Type 0} (e : Keyed K W) (seen : W → Y) (h : HashFunction) (g : Grafting) (store : Ghosts S) where
  -- a database is kept in memory, and the tables show it at its last commit
  pub record Stores (journal : Journal S) (kept : KeptDatabase K W) (d : Database K W) : Type 0 where
    pub keeps : Keeps e seen h g kept d
    pub shows : ShowsLast h g store journal d.last

  -- the command is not one too many, and leaves what it gives, in memory and in the tables
  abbrev pub IsStoredDone : Journal S → KeptDatabase K W → Journal S → KeptDatabase K W → Command K W → Type 0
  IsStoredDone old before new after command = (d : Database K W) → Stores old before d
      → (is_full e d command ≡ false) × Stores new after (done e d command)
