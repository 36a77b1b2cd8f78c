-- When the tables of a database are opened, and when not.
use Rattle.std.specs.Prelude.{◌≡◌, ◌≢◌, ◌⊎◌, ℕ, List, Option, option_map}
use Rattle.sqlite.specs.Store.{Ghosts}
use Rattle.storage_codec.specs.Digests.{HashFunction}
use Rattle.storage_current.specs.Keys.{Keyed}
use Rattle.storage_current.specs.Snapshots.{Grafting, canonical_root}
use Rattle.storage_db.specs.Databases.{Command, Committed, empty, run}
use Rattle.storage_db.specs.Kept.{KeptDatabase}
use Rattle.storage_db.specs.Opening.{IsOpened, Leave}
use Rattle.storage_file.specs.declared.journal.Journal.{Journal}
use Rattle.storage_file.specs.Journals.{IsClean, IsLive}
use Rattle.storage_file.specs.Kept.{Agreement, Kept}
use Rattle.storage_stored.specs.declared.error.Error.{Error}
use Rattle.storage_stored.specs.declared.error.Error.TheVariants.{Foreign, Corrupted, Memory}
use Rattle.storage_stored.specs.Stored.{AreListsOf, IsAt, ShowsLast, committed_operations}

module _ {K W : Type 0} (e : Keyed K W) (reads : List ℕ → Command K W → Type 0) (h : HashFunction) (g : Grafting) where
  -- Some commands leave the operations of the lists, and its last row is that of their last commit.
  pub record AreOfDatabase (lists : Kept) : Type 0 where
    pub commands : List (Command K W)
    pub log : Leave e reads lists.operations commands
    pub are : AreListsOf h g lists (run e empty commands).last

  -- why no database is made of lists: they are those of none; or want of memory
  abbrev pub IsReadRefused : {F : Type 0} → Kept → Error F → Type 0
  IsReadRefused lists error = (error ≡ Memory) ⊎ ((error ≡ Corrupted) × (AreOfDatabase lists → ⊥))

  -- Foreign is told only of another agreement, and Corrupted only of lists under this agreement that are those of no database.
  pub record IsNotOpened {F : Type 0} (lists : Kept) (agreed : Agreement) (error : Error F) : Type 0 where
    pub foreign : error ≡ Foreign → lists.agreed ≢ agreed
    pub corrupted : error ≡ Corrupted → (lists.agreed ≡ agreed) × (AreOfDatabase lists → ⊥)

  module _ {Y S : Type 0} (seen : W → Y) (store : Ghosts S) where
    -- It is opened of these operations, and the tables show it at its last commit.
    abbrev pub IsOpenedOf : List (List ℕ) → Journal S → KeptDatabase K W → Type 0
    IsOpenedOf operations journal kept = (opened : IsOpened e reads seen h g operations kept)
        × ShowsLast h g store journal (run e empty opened.commands).last

    -- It is opened of the operations of this commit, and its last one has the same floor and root. While the disk answers truly and
    -- the connection is open, the tables show it at that one.
    abbrev pub IsBack : Option (Committed K W) → Journal S → KeptDatabase K W → Type 0
    IsBack last journal kept = (opened : IsOpened e reads seen h g (committed_operations last) kept)
        × IsAt h g (option_map (λ commit. commit.snapshot.floor) last) (option_map (λ commit. canonical_root h g commit.snapshot) last)
        (run e empty opened.commands).last
        × (IsClean store journal → IsLive store journal → ShowsLast h g store journal (run e empty opened.commands).last)
