-- A put and a deletion leave the last commit.
use Rattle.std.proofs.Common.{◌≡◌, ℕ, Bool, true, false, Option, None, Some, is_some, if◌then◌else◌, refl, sym, subst, ◌∙◌}
use Rattle.sqlite.specs.Store.{Ghosts}
use Rattle.storage_codec.specs.Digests.{HashFunction}
use Rattle.storage_current.specs.Keys.{Keyed}
use Rattle.storage_current.specs.Snapshots.{Grafting}
use Rattle.storage_db.specs.declared.db.active.Active.{Active}
use Rattle.storage_db.specs.Databases.{Command, Committed, Database, Put, Delete, active_at, done, is_full, relinked, removed, updated, put, delete}
use Rattle.storage_db.specs.Kept.{IsDone, KeptDatabase, Keeps}
use Rattle.storage_db.specs.Rings.{next_key, previous}
use Rattle.storage_file.specs.declared.journal.Journal.{Journal}
use Rattle.storage_stored.specs.Stored.{IsStoredDone, ShowsLast, Stores}

if_last : {K W : Type 0} (b : Bool) (x y : Database K W) (last : Option (Committed K W)) → x.last ≡ last → y.last ≡ last → (if b then x else y).last ≡ last
if_last true x y last p q = p
if_last false x y last p q = q

module _ {K W : Type 0} (e : Keyed K W) where
  relinked_last : (d : Database K W) (entry : Option (K × Active W)) (next : K) → (relinked e d entry next).last ≡ d.last
  relinked_last d None next = refl
  relinked_last d (Some entry) next = refl

  pub put_last : (d : Database K W) (key : K) (value : W) → (put e d key value).last ≡ d.last
  put_last d key value =
      let after = updated e d key value (next_key e.cmp d.entries key) in
      if_last (is_some (active_at e d.entries key)) after (relinked e after (previous e.cmp d.entries key) key) d.last refl (relinked_last after (previous e.cmp d.entries key) key)

  pub delete_last : (d : Database K W) (key : K) → (delete e d key).last ≡ d.last
  delete_last d key =
      let after = relinked e (removed e d key) (previous e.cmp d.entries key) (next_key e.cmp d.entries key) in
      if_last (is_some (active_at e d.entries key)) after d d.last (relinked_last (removed e d key) (previous e.cmp d.entries key) (next_key e.cmp d.entries key)) refl

module _ {K W Y S : Type 0} (e : Keyed K W) (seen : W → Y) (h : HashFunction) (g : Grafting) (store : Ghosts S) (journal : Journal S) (old new : KeptDatabase K W) where
  -- a command that leaves the last commit is done in memory, and the tables stay
  pub done_inside : (command : Command K W) → ((d : Database K W) → (done e d command).last ≡ d.last) → IsDone e seen h g old new command
      → IsStoredDone e seen h g store journal old journal new command
  done_inside command stays is d stores =
      let step = is d stores.keeps in
      (step.0, record { keeps = step.1; shows = subst (ShowsLast h g store journal) (sym (stays d)) stores.shows })
