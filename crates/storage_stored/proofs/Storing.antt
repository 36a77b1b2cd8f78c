-- What a commit puts into the tables, and what a crash leaves of them.
use Rattle.std.proofs.Common.{◌≡◌, ◌⊎◌, inl, inr, ℕ, ◌+◌, ◌-◌, ◌≤◌, List, length, map, take, drop, Option, Some, IsTrue, Result, Ok, Err, OnErr, sym, ap, ◌∙◌, arith}
use Rattle.std.proofs.lemmas.List.{drop-drop, drop-map, length-drop, length-map}
use Rattle.sqlite.specs.Store.{Ghosts}
use Rattle.sqlite.specs.Tree.{Trees}
use Rattle.sqlite.specs.Held.{state}
use Rattle.storage_codec.specs.Digests.{HashFunction}
use Rattle.storage_current.specs.Snapshots.{Grafting}
use Rattle.storage_db.specs.Databases.{Committed, Database}
use Rattle.storage_file.specs.declared.journal.Journal.{Journal}
use Rattle.storage_file.specs.Journals.{IsOf, MayLeave}
use Rattle.storage_file.specs.Kept.{Commit, Kept, with_commit}
use Rattle.storage_file.specs.Tables.{Holds}
use Rattle.storage_file.proofs.JournalLemmas.{leaves_lists}
use Rattle.storage_stored.specs.Stored.{AreListsOf, HoldsLast, IsAhead, IsLastRow, ShowsLast}
use Rattle.storage_stored.proofs.Lists.{lists_after, within_taken}

pub on_err : {A E P : Type 0} (r : Result A E) → P → OnErr r P
on_err (Ok a) p = tt
on_err (Err e) p = p

-- while the connection is open, a crash leaves the last commit
abbrev pub Settles : {S : Type 0} → Ghosts S → Journal S → Type 0
Settles store journal = (db : Trees) → IsTrue (state store journal.conn).is_open → (state store journal.conn).may_leave db → db ≡ (state store journal.conn).committed.trees

-- the operations from a location on, of those that are not forgotten
pub rest_behind : {X : Type 0} (f : X → List ℕ) (operations more : List X) (pruned start : ℕ) (all : List (List ℕ)) → map f operations ≡ drop pruned all
    → pruned ≤ start → start ≤ length all → (start - pruned ≤ length operations → more ≡ drop (start - pruned) operations) → map f more ≡ drop start all
rest_behind f operations more pruned start all is low few rest =
    let count : length operations ≡ length all - pruned = sym (length-map operations f) ∙ ap length is ∙ length-drop pruned all in
    let place : pruned + (start - pruned) ≡ start = omega (arith, low) in
    ap (map f) (rest (omega (arith, count, few, low))) ∙ sym (drop-map f (start - pruned) operations) ∙ ap (drop (start - pruned)) is
    ∙ drop-drop (start - pruned) pruned all ∙ ap (λ n. drop n all) place

-- the operations from the end of the lists on
pub rest_is : {X : Type 0} (f : X → List ℕ) (more : List X) (start : ℕ) (all first : List (List ℕ)) → start ≡ length first
    → first ≡ take (length first) all → (start ≤ length all → map f more ≡ drop start all) → map f more ≡ drop (length first) all
rest_is f more start all first at begins rest =
    rest (omega (arith, at, within_taken first all begins)) ∙ ap (λ n. drop n all) at

module _ (h : HashFunction) (g : Grafting) {K W : Type 0} where
  pub holds_either : (db : Trees) (lists : Kept) (last : Option (Committed K W)) (P : Type 0) → AreListsOf h g lists last → Holds db lists ⊎ P → HoldsLast h g db last ⊎ P
  holds_either db lists last P are (inl holds) = inl (record { lists = lists; holds = holds; are = are })
  holds_either db lists last P are (inr more) = inr more

  module _ (lists : Kept) (d : Database K W) (more : List (List ℕ)) (row : Commit) (on : IsAhead lists d) (rest : more ≡ drop (length lists.operations) d.operations) (is : IsLastRow h g (Some row) d.last) where
    pub holds_after : (db : Trees) → Holds db (with_commit lists more row) → HoldsLast h g db d.last
    holds_after db holds = record { lists = with_commit lists more row; holds = holds; are = lists_after h g lists d more row on rest is }

    pub holds_or_after : (db : Trees) → Holds db lists ⊎ Holds db (with_commit lists more row) → Holds db lists ⊎ HoldsLast h g db d.last
    holds_or_after db (inl before) = inl before
    holds_or_after db (inr after) = inr (holds_after db after)

    pub shows_after : {S : Type 0} (store : Ghosts S) (journal : Journal S) → IsOf store journal (with_commit lists more row) → ShowsLast h g store journal d.last
    shows_after store journal shown = record { lists = with_commit lists more row; shown = shown; are = lists_after h g lists d more row on rest is }

  pub left_last : {S : Type 0} (store : Ghosts S) (journal : Journal S) (last : Option (Committed K W)) → ShowsLast h g store journal last → Settles store journal → (db : Trees) → MayLeave store journal db → HoldsLast h g db last
  left_last store journal last shows settled db may = record { lists = shows.lists; holds = leaves_lists store journal shows.lists shows.shown settled db may; are = shows.are }
