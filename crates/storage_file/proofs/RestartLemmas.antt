-- From one run to the next.
use Rattle.std.proofs.Common.{◌⊎◌, inl, inr, ℕ, List, IsTrue}
use Rattle.std.proofs.Math.Logic.{∥∥₁_map}
use Rattle.sqlite_disk.specs.declared.Disk.{Ghosts}
use Rattle.sqlite.specs.declared.FileStore.{FileStore}
use Rattle.sqlite_store.specs.FileStore.{view, recovers}
use Rattle.sqlite.specs.Recovery.{Image}
use Rattle.sqlite.specs.Tree.{Trees}
use Rattle.sqlite.specs.Files.{file_state}
use Rattle.sqlite.specs.Held.{Held, AreDatabases}
use Rattle.sqlite.proofs.Theorems.{next_run}
use Rattle.storage_file.specs.Kept.{Kept}
use Rattle.storage_file.specs.Tables.{Holds, Shows}
use Rattle.storage_file.specs.Restart.{MayBeLeft, OpensOn}
use Rattle.storage_file.proofs.SchemaLemmas.{opened_shows}

pub restarted : {D : Type 0} {g : Ghosts D} (it : FileStore D g) (all more : Kept) → IsTrue (view it).is_numbered → AreDatabases (recovers it)
    → ((db : Trees) → recovers it db → Holds db all ⊎ Holds db more) → (left : Image) → MayBeLeft it left → (again : Held (FileStore D g)) → OpensOn left again → ∥ Shows (file_state again) all ⊎ Shows (file_state again) more ∥₁
restarted it all more numbered sound either left may again on =
    let show = λ (them : Kept). opened_shows (file_state again) them on.opened.0 on.opened.1 in
    ∥∥₁_map (next_run it numbered sound left may (file_state again) on.found)
    (λ found. elim (either (file_state again).committed.trees found) [ inl was ↦ inl (show all was) | inr is ↦ inr (show more is) ])
