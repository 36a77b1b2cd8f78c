-- What a crash leaves of the files, and what an open of them shows.
use Rattle.sqlite_disk.specs.declared.Disk.{Ghosts}
use Rattle.sqlite_disk.specs.declared.Files.{Files}
use Rattle.sqlite.specs.declared.FileStore.{FileStore}
use Rattle.sqlite_store.specs.FileStore as files
use Rattle.sqlite.specs.Recovery.{Image}
use Rattle.sqlite.specs.Files.{file_state, Finds, IsOpened}
use Rattle.sqlite.specs.Start.{FindsIn}
use Rattle.sqlite.specs.Held.{Held}

-- a crash at this moment may leave this image of the two files
abbrev pub MayBeLeft : {D : Type 0} {g : Ghosts D} → FileStore D g → Image → Type 0
MayBeLeft it left = (files.state it).may_leave left

-- the connection was just opened on this image
pub record OpensOn {D : Type 0} {g : Ghosts D} (left : Image) (again : Held (FileStore D g)) : Type 0 where
  pub opened : IsOpened again
  pub found : FindsIn left (file_state again)

-- the connection was just opened on these files
pub record OpensFiles {D : Type 0} {g : Ghosts D} (files : Files D) (again : Held (FileStore D g)) : Type 0 where
  pub opened : IsOpened again
  pub found : Finds files again
