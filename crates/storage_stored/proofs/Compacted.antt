-- Updates that are put again leave what the tables show.
use Rattle.std.proofs.Common.{◌≡◌, ℕ, Bool, true, false, List, [], ◌∷◌, refl, sym, subst, ◌∙◌, true≢false}
use Rattle.sqlite.specs.Store.{Ghosts}
use Rattle.storage_codec.specs.Digests.{HashFunction}
use Rattle.storage_current.specs.Keys.{Keyed}
use Rattle.storage_current.specs.Snapshots.{Grafting}
use Rattle.storage_db.specs.Compacting.{AreMoved, AreOldest, IsCompacted, IsStopped}
use Rattle.storage_db.specs.Databases.{Command, Database, done, is_full, run}
use Rattle.storage_db.specs.Kept.{KeptDatabase, Keeps}
use Rattle.storage_db.specs.declared.db.ordered.compact.CompactError as database
use Rattle.storage_db.proofs.Cases.{cond_no}
use Rattle.storage_file.specs.declared.journal.Journal.{Journal}
use Rattle.storage_stored.specs.Compacted.{IsCompactRefused, IsStoredCompacted, StoresAfter, told_of_compact}
use Rattle.storage_stored.specs.Stored.{ShowsLast}
use Rattle.storage_stored.proofs.Commands.{put_last}

module _ {K W : Type 0} (e : Keyed K W) where
  moved_last : (commands : List (Command K W)) (d : Database K W) → AreOldest e d commands → (run e d commands).last ≡ d.last
  moved_last [] d are = refl
  moved_last (command ∷ commands) d (again, few, more) =
      let next : Database K W = done e d command in
      let one : next.last ≡ d.last = subst (λ (c : Command K W). (done e d c).last ≡ d.last) (sym again.is) (put_last e d again.key again.active.value) in
      let all : (run e next commands).last ≡ next.last = moved_last commands next more in
      subst (λ (x : Database K W). (run e x commands).last ≡ d.last) (sym (cond_no (is_full e d command) d next few)) (all ∙ one)

module _ {K W Y S : Type 0} (e : Keyed K W) (seen : W → Y) (h : HashFunction) (g : Grafting) (store : Ghosts S) (journal : Journal S) (kept : KeptDatabase K W) where
  shown_after : (d : Database K W) (moved : ℕ) (are : AreMoved e seen h g d moved kept) → StoresAfter e seen h g store journal kept d are.commands
  shown_after d moved are = λ shows. record {
    keeps = are.keeps;
    shows = subst (ShowsLast h g store journal) (sym (moved_last e are.commands d are.oldest)) shows;
  }

  pub compacted : (d : Database K W) (count moved : ℕ) → IsCompacted e seen h g d count kept moved → IsStoredCompacted e seen h g store journal d count kept moved
  compacted d count moved is = record { is = is; stores = shown_after d moved is.are }

  pub compact_refused : {F : Type 0} (reads : List ℕ → Command K W → Type 0) (old : KeptDatabase K W) (count : ℕ) (cause : database.CompactError F) (stopped : Bool) → stopped ≡ false
      → ((d : Database K W) → Keeps e seen h g old d → IsStopped e reads seen h g d count kept cause)
      → IsCompactRefused e seen h g store reads stopped journal old count kept (told_of_compact cause)
  compact_refused reads old count cause true runs why = absurd (true≢false runs)
  compact_refused reads old count cause false runs why = λ d keeps.
      let is = why d keeps in
      record { cause = cause; told = refl; is = is; stores = shown_after d is.moved is.are }
