-- A database that is opened from the lists of a file.
use Rattle.std.proofs.Common.{◌≡◌, ◌≢◌, ◌⊎◌, inl, inr, ℕ, ◌+◌, ◌-◌, ◌<◌, ◌≤◌, Bool, true, false, not, true≢false, List, [], ◌∷◌, ◌++◌, length, take, drop, slice_get, Option, None, Some, MatchOption, IsSomeAnd, IsTrue, refl, sym, ap, subst, ◌∙◌, arith}
use Rattle.std.specs.Prelude.{◌↔◌}
use Rattle.std.proofs.lemmas.List.{take-append-drop}
use Rattle.std.proofs.Math.Nat.{eq-or-lt_of_le}
use Rattle.std.specs.List.{AllZip}
use Rattle.storage_codec.specs.Digests.{HashFunction}
use Rattle.storage_current.specs.Keys.{Keyed}
use Rattle.storage_current.specs.Snapshots.{Grafting, canonical_root}
use Rattle.storage_db.specs.declared.db.active.Active.{Active}
use Rattle.storage_db.specs.Databases.{Command, Committed, Database, empty, run}
use Rattle.storage_db.specs.Kept.{IsCopy, KeptDatabase, Keeps}
use Rattle.storage_db.specs.declared.db.ordered.opening.OpenError as opening
use Rattle.storage_db.specs.declared.db.ordered.opening.OpenError.TheVariants as of_open
use Rattle.storage_db.specs.Opening.{Begins, IsCommitted, IsOpened, IsOpenRefused, IsRefusedAt, IsSame, IsSameCommit, Leave}
use Rattle.storage_file.specs.Kept.{Agreement, Commit, Kept}
use Rattle.storage_stored.specs.declared.error.Error.{Error}
use Rattle.storage_stored.specs.declared.error.Error.TheVariants.{Foreign, Corrupted, Memory}
use Rattle.storage_stored.specs.Opened.{AreOfDatabase, IsNotOpened, IsReadRefused}
use Rattle.storage_stored.specs.Refusals.{told_of_open}
use Rattle.storage_stored.specs.Stored.{AreListsOf, IsLastRow, committed_operations}
use Rattle.storage_stored.proofs.Lists.{operations_of}

-- what does not fail holds, and what fails does not
pub is_so : (told : Bool) → not told ≡ false → IsTrue told
is_so true is = refl
is_so false is = absurd (true≢false is)

pub is_not : (told : Bool) → told ≡ false → IsTrue told → ⊥
is_not told is holds = true≢false (sym holds ∙ is)

module _ {K W : Type 0} (e : Keyed K W) (reads : List ℕ → Command K W → Type 0) where
  -- the log of a database is not refused
  never_refused : (operations : List (List ℕ)) (place : ℕ) (commands : List (Command K W)) → IsRefusedAt e reads operations place
      → Leave e reads operations commands → ⊥
  never_refused operations place commands refused log = elim (eq-or-lt_of_le refused.within) [
    | inl ended ↦ refused.unfinished ended commands log
    | inr low ↦ refused.apart low (record { commands = commands; more = drop (place + 1) operations; read = log.read; leave = log.leave ∙ sym (take-append-drop (place + 1) operations) })
  ]

  module _ (h : HashFunction) (g : Grafting) where
    -- operations that are refused are those of no database
    pub read_refused : {F : Type 0} (error : opening.OpenError F) (given : List (List ℕ)) (lists : Kept) → IsOpenRefused e reads given error → given ≡ lists.operations
        → IsReadRefused e reads h g lists (told_of_open error)
    read_refused (of_open.NotALog place) given lists refused same =
        inr (refl, λ of. never_refused given place of.commands refused (subst (λ ops. Leave e reads ops of.commands) (sym same) of.log))
    read_refused of_open.Memory given lists refused same = inl refl

    -- and so is a file whose lists are refused
    pub not_opened : {F : Type 0} (lists : Kept) (agreed : Agreement) (error : Error F) → lists.agreed ≡ agreed → IsReadRefused e reads h g lists error → IsNotOpened e reads h g lists agreed error
    not_opened lists agreed error same (inl memory) = record { foreign = λ told. absurd (cc); corrupted = λ told. absurd (cc) }
    not_opened lists agreed error same (inr refused) = record { foreign = λ told. absurd (cc); corrupted = λ told. (same, refused.1) }

-- ---- the last commit of what is opened

module _ {K W Y : Type 0} (e : Keyed K W) (seen : W → Y) (h : HashFunction) (g : Grafting) where
  same_row : (row : Option Commit) (last other : Option (Committed K W)) → MatchOption last (other ≡ None) (λ c. IsSomeAnd other (IsSameCommit e seen c)) → IsLastRow h g row other → IsLastRow h g row last
  same_row row None other same is = subst (IsLastRow h g row) same is
  same_row row (Some c) None same is = absurd same
  same_row None (Some c) (Some o) same is = absurd is
  same_row (Some row) (Some c) (Some o) same is = record {
    location = is.location ∙ ap (λ s. length s.operations - 1) same.snapshot;
    floor = is.floor ∙ ap (λ s. s.floor) same.snapshot;
    root = is.root ∙ ap (λ s. canonical_root h g s) same.snapshot;
  }

  -- nothing but the empty database is the same as it
  none_zip : {X Z : Type 0} (R : X → Z → Type 0) (xs : List X) → AllZip R xs [] → xs ≡ []
  none_zip R [] all = refl
  none_zip R (x ∷ xs) all = absurd all

  no_last : (last : Option (Committed K W)) → MatchOption last (◌≡◌ {A = Option (Committed K W)} None None) (λ c. IsSomeAnd None (IsSameCommit e seen c)) → last ≡ None
  no_last None same = refl
  no_last (Some c) same = absurd same

  empty_is : (d : Database K W) → IsSame e seen d empty → d ≡ empty
  empty_is d same =
      let entries = none_zip (IsCopy e seen) d.entries same.entries in
      let last = no_last d.last same.last in
      λ i. record { operations = sym same.operations i; bits = sym same.bits i; entries = entries i; last = last i }

  module _ (reads : List ℕ → Command K W → Type 0) (kept : KeptDatabase K W) where
    -- the same operations are opened as the same database
    abbrev pub opened_same : (given operations : List (List ℕ)) → given ≡ operations → IsOpened e reads seen h g given kept → IsOpened e reads seen h g operations kept
    opened_same given operations is opened = record {
      commands = opened.commands;
      log = subst (λ all. Leave e reads all opened.commands) is opened.log;
      keeps = opened.keeps;
      same = λ others log. opened.same others (subst (λ all. Leave e reads all others) (sym is) log);
    }

    -- the operations of what is opened are those of its last commit
    pub opened_last : (operations : List (List ℕ)) (opened : IsOpened e reads seen h g operations kept) → operations ≡ committed_operations (run e empty opened.commands).last
    opened_last operations opened =
        let d = run e empty opened.commands in
        sym opened.log.leave ∙ operations_of h g d.last d.operations opened.log.committed

    module _ (given : List (List ℕ)) (lists : Kept) (told : Bool) (opened : IsOpened e reads seen h g given kept) (is : given ≡ lists.operations)
        (tells : IsTrue told ↔ AreListsOf h g lists (run e empty opened.commands).last) where
      pub read_opened : IsTrue told → (now : IsOpened e reads seen h g lists.operations kept) × AreListsOf h g lists (run e empty now.commands).last
      read_opened holds = (opened_same given lists.operations is opened, tells.0 holds)

      -- and where the last row is another, no commands leave the lists
      pub read_other : (IsTrue told → ⊥) → AreOfDatabase e reads h g lists → ⊥
      read_other fails of = fails (tells.1 (record {
        operations = sym is ∙ opened_last given opened;
        row = same_row (slice_get lists.commits (length lists.commits - 1)) (run e empty opened.commands).last (run e empty of.commands).last
            (opened.same of.commands (subst (λ all. Leave e reads all of.commands) (sym is) of.log)).last of.are.row;
      }))

  -- what is opened of no operations is the empty database
  pub opened_empty : (reads : List ℕ → Command K W → Type 0) (kept : KeptDatabase K W) → IsOpened e reads seen h g [] kept → Keeps e seen h g kept empty
  opened_empty reads kept opened =
      let none : Leave e reads [] [] = record { read = tt; leave = refl; committed = refl } in
      subst (Keeps e seen h g kept) (empty_is (run e empty opened.commands) (opened.same [] none)) opened.keeps
