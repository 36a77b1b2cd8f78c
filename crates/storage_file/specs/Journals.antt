-- A journal: the tables, with the connection that they stand behind.
use Rattle.std.specs.Prelude.{IsTrue}
use Rattle.sqlite.specs.Store.{Ghosts}
use Rattle.sqlite.specs.Tree.{Trees}
use Rattle.sqlite.specs.Held.{state}
use Rattle.sqlite.specs.State.{HasCleanDisk}
use Rattle.storage_file.specs.declared.journal.Journal.{Journal}
use Rattle.storage_file.specs.Given.{Counted}
use Rattle.storage_file.specs.Kept.{Kept}
use Rattle.storage_file.specs.Tables.{Shows}

module _ {S : Type 0} (g : Ghosts S) where
  -- the disk has answered truly so far
  abbrev pub IsClean : Journal S → Type 0
  IsClean it = HasCleanDisk (state g it.conn)

  -- the connection is open
  abbrev pub IsLive : Journal S → Type 0
  IsLive it = IsTrue (state g it.conn).is_open

  -- an open after a crash at this moment may find these trees
  abbrev pub MayLeave : Journal S → Trees → Type 0
  MayLeave it = (state g it.conn).may_leave

  -- the tables show this, and so many rows are counted
  pub record IsOf (it : Journal S) (kept : Kept) : Type 0 where
    pub shows : Shows (state g it.conn) kept
    pub counted : Counted it.counts kept
