-- A database that goes back to the commit that is stored.
use Rattle.std.proofs.Common.{◌≡◌, ℕ, ◌-◌, List, [], length, take, map, slice_get, Option, None, Some, option_map, sym, ap, ◌∙◌}
use Rattle.std.proofs.lemmas.List.{take-map}
use Rattle.sqlite.specs.Store.{Ghosts}
use Rattle.storage_codec.specs.Digests.{HashFunction}
use Rattle.storage_current.specs.Keys.{Keyed}
use Rattle.storage_current.specs.Snapshots.{Grafting, canonical_root}
use Rattle.storage_db.specs.Databases.{Command, Committed, Database, empty, run}
use Rattle.storage_db.specs.Kept.{KeptDatabase}
use Rattle.storage_db.specs.Opening.{IsOpened}
use Rattle.storage_file.specs.declared.journal.Journal.{Journal}
use Rattle.storage_file.specs.Journals.{IsClean, IsLive, IsOf}
use Rattle.storage_file.specs.Kept.{Commit, Kept}
use Rattle.storage_stored.specs.Opened.{IsBack}
use Rattle.storage_stored.specs.Stored.{AreListsOf, IsAhead, IsAt, IsLastRow, committed_operations}
use Rattle.storage_stored.proofs.Opened.{opened_last, opened_same}

-- the first operations, as they are written
pub first_texts : {X : Type 0} (f : X → List ℕ) (kept first : List X) (all : List (List ℕ)) (count : ℕ) → map f kept ≡ all → first ≡ take count kept → map f first ≡ take count all
first_texts f kept first all count is cut = ap (map f) cut ∙ sym (take-map f count kept) ∙ ap (take count) is

module _ (h : HashFunction) (g : Grafting) {K W : Type 0} where
  -- the row of a commit is that of another one with the same operations, floor and root
  row_at : (row : Option Commit) (last other : Option (Committed K W)) → committed_operations last ≡ committed_operations other
      → IsAt h g (option_map (λ c. c.snapshot.floor) last) (option_map (λ c. canonical_root h g c.snapshot) last) other → IsLastRow h g row last → IsLastRow h g row other
  row_at row None None operations at is = is
  row_at row None (Some o) operations at is = absurd (let f : None ≡ Some o.snapshot.floor = at.floor in cc)
  row_at row (Some c) None operations at is = absurd (let f : Some c.snapshot.floor ≡ None = at.floor in cc)
  row_at None (Some c) (Some o) operations at is = absurd is
  row_at (Some row) (Some c) (Some o) operations at is =
      let f : Some c.snapshot.floor ≡ Some o.snapshot.floor = at.floor in
      let r : Some (canonical_root h g c.snapshot) ≡ Some (canonical_root h g o.snapshot) = at.root in
      let low : c.snapshot.floor ≡ o.snapshot.floor = cc in
      let top : canonical_root h g c.snapshot ≡ canonical_root h g o.snapshot = cc in
      record { location = is.location ∙ ap (λ (all : List (List ℕ)). length all - 1) operations; floor = is.floor ∙ low; root = is.root ∙ top }

module _ {K W Y S : Type 0} (e : Keyed K W) (reads : List ℕ → Command K W → Type 0) (h : HashFunction) (g : Grafting) (seen : W → Y) (store : Ghosts S) where
  pub back_is : (journal : Journal S) (kept : KeptDatabase K W) (lists : Kept) (last : Option (Committed K W)) (after : Database K W) (count : ℕ) (floor : Option ℕ) (root : Option (List ℕ))
      → AreListsOf h g lists last → IsAhead lists after → count ≡ length lists.operations → IsAt h g floor root last
      → (opened : IsOpened e reads seen h g (take count after.operations) kept) × IsAt h g floor root (run e empty opened.commands).last
      → (IsClean store journal → IsLive store journal → IsOf store journal lists) → IsBack e reads h g seen store last journal kept
  back_is journal kept lists last after count floor root are on counted was found shown =
      let first : take count after.operations ≡ committed_operations last = ap (λ n. take n after.operations) counted ∙ sym on.first ∙ are.operations in
      let opened = opened_same e seen h g reads kept (take count after.operations) (committed_operations last) first found.0 in
      let at : IsAt h g (option_map (λ c. c.snapshot.floor) last) (option_map (λ c. canonical_root h g c.snapshot) last) (run e empty found.0.commands).last = record { floor = sym was.floor ∙ found.1.floor; root = sym was.root ∙ found.1.root } in
      let same = opened_last e seen h g reads kept (committed_operations last) opened in (
        opened,
        at,
        λ clean live. record {
          lists = lists;
          shown = shown clean live;
          are = record {
            operations = are.operations ∙ same;
            row = row_at h g (slice_get lists.commits (length lists.commits - 1)) last (run e empty found.0.commands).last same at are.row;
          };
        },
      )
