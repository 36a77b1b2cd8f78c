-- The lists of a file, before a commit and after it.
use Rattle.std.proofs.Common.{◌≡◌, ℕ, ◌-◌, ◌≤◌, List, [], ◌∷◌, ◌++◌, length, take, drop, slice_get, Option, None, Some, IsSome, IsTrue, Bool, MatchOption, refl, sym, ap, ap₂, subst, ◌∙◌, arith}
use Rattle.std.specs.Prelude.{◌↔◌}
use Rattle.std.proofs.lemmas.List.{take-append-le, take-append-drop, length-append, length-take}
use Rattle.storage_codec.specs.Digests.{HashFunction}
use Rattle.storage_current.specs.Keys.{Keyed}
use Rattle.storage_current.specs.Snapshots.{Grafting}
use Rattle.storage_db.specs.Databases.{Committed, Database, commit}
use Rattle.storage_db.specs.Kept.{AreFirst, KeptDatabase, Keeps}
use Rattle.storage_db.specs.Opening.{IsCommitted}
use Rattle.storage_file.specs.Kept.{Commit, Kept, with_commit}
use Rattle.storage_stored.specs.Stored.{AreListsOf, IsAhead, IsLastRow, committed_operations}

-- ---- the last of a list

length_one : {X : Type 0} (xs : List X) (x : X) → length (xs ++ x ∷ []) - 1 ≡ length xs
length_one xs x = omega (arith, length-append xs (x ∷ []))

get_end : {X : Type 0} (xs : List X) (x : X) → slice_get (xs ++ x ∷ []) (length xs) ≡ Some x
get_end [] x = refl
get_end (y ∷ ys) x = get_end ys x

last_pushed : {X : Type 0} (xs : List X) (x : X) → slice_get (xs ++ x ∷ []) (length (xs ++ x ∷ []) - 1) ≡ Some x
last_pushed xs x = ap (slice_get (xs ++ x ∷ [])) (length_one xs x) ∙ get_end xs x

-- ---- a commit goes on from the lists

pub within_taken : {X : Type 0} (xs ys : List X) → xs ≡ take (length xs) ys → length xs ≤ length ys
within_taken xs ys is = omega (arith, ap length is, length-take (length xs) ys)

goes_on : {K W : Type 0} (lists all : List (List ℕ)) (x : List ℕ) (last : Option (Committed K W)) → lists ≡ committed_operations last
    → MatchOption last (Unit {0}) (AreFirst all) → lists ≡ take (length lists) (all ++ x ∷ [])
goes_on lists all x None is first = subst (λ l. l ≡ take (length l) (all ++ x ∷ [])) (sym is) refl
goes_on lists all x (Some c) is first =
    let here : lists ≡ take (length lists) all = subst (λ l. l ≡ take (length l) all) (sym is) first in
    here ∙ sym (take-append-le (length lists) all (x ∷ []) (within_taken lists all here))

module _ {K W Y : Type 0} (e : Keyed K W) (seen : W → Y) (h : HashFunction) (g : Grafting) where
  pub ahead : (kept : KeptDatabase K W) (lists : Kept) (d : Database K W) (metadata : Option W) → Keeps e seen h g kept d → AreListsOf h g lists d.last
      → IsAhead lists (commit e d metadata)
  ahead kept lists d metadata keeps are = record {
    some = refl;
    committed = refl;
    first = goes_on lists.operations d.operations _ d.last are.operations keeps.prefix;
  }

-- ---- the lists with a commit at their ends

module _ (h : HashFunction) (g : Grafting) {K W : Type 0} where
  pub all_of : (operations : List (List ℕ)) (last : Option (Committed K W)) → IsSome last → MatchOption last (operations ≡ []) (λ c. c.snapshot.operations ≡ operations)
      → operations ≡ committed_operations last
  all_of operations None some is = absurd (cc)
  all_of operations (Some c) some is = sym is

  pub lists_after : (lists : Kept) (d : Database K W) (more : List (List ℕ)) (row : Commit) → IsAhead lists d → more ≡ drop (length lists.operations) d.operations
      → IsLastRow h g (Some row) d.last → AreListsOf h g (with_commit lists more row) d.last
  lists_after lists d more row on rest is = record {
    operations = ap₂ ◌++◌ on.first rest ∙ take-append-drop (length lists.operations) d.operations ∙ all_of d.operations d.last on.some on.committed;
    row = subst (λ r. IsLastRow h g r d.last) (sym (last_pushed lists.commits row)) is;
  }

  pub operations_of : (last : Option (Committed K W)) (operations : List (List ℕ)) → MatchOption last (operations ≡ []) (λ c. c.snapshot.operations ≡ operations) → operations ≡ committed_operations last
  operations_of None operations is = is
  operations_of (Some c) operations is = sym is

  -- lists with the operations of a database that has committed them all are its own exactly if their last row is
  pub lists_told : (lists : Kept) (d : Database K W) (r : Bool) → IsCommitted d → lists.operations ≡ d.operations
      → (IsTrue r ↔ IsLastRow h g (slice_get lists.commits (length lists.commits - 1)) d.last) → (IsTrue r ↔ AreListsOf h g lists d.last)
  lists_told lists d r all operations told = (
    λ yes. record { operations = operations ∙ operations_of d.last d.operations all; row = told.0 yes },
    λ are. told.1 are.row,
  )
