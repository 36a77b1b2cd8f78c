-- The row of the last commit.
use Rattle.std.proofs.Common.{Bool, true, false, not, is_some, IsTrue, slice_get, map, ◌≡◌, ℕ, ◌-◌, List, [], length, Option, None, Some, option_map, MatchOption, refl, sym, ap, ◌∙◌}
use Rattle.std.specs.Prelude.{◌↔◌}
use Rattle.std.specs.Borrow.{Bor}
use Rattle.std.specs.Option.{option_copied}
use Rattle.std.proofs.lemmas.List.{length-map}
use Rattle.std.proofs.lemmas.Option.{slice_get-map}
use Rattle.storage_codec.specs.Digests.{HashFunction}
use Rattle.storage_current.specs.Snapshots.{Grafting, canonical_root}
use Rattle.storage_db.specs.Databases.{Committed}
use Rattle.storage_file.specs.Kept.{Commit}
use Rattle.storage_stored.specs.Stored.{IsLastRow}

module _ (h : HashFunction) (g : Grafting) {K W : Type 0} where
  pub row_is : (last : Option (Committed K W)) (operations : List (List ℕ)) (row : Commit) → MatchOption last (operations ≡ []) (λ c. c.snapshot.operations ≡ operations)
      → row.location ≡ length operations - 1 → Some row.floor ≡ option_map (λ c. c.snapshot.floor) last
      → Some row.root ≡ option_map (λ c. canonical_root h g c.snapshot) last → IsLastRow h g (Some row) last
  row_is None operations row all location floor root = absurd (cc)
  row_is (Some c) operations row all location floor root = record {
    location = location ∙ ap (λ (o : List (List ℕ)). length o - 1) (sym all);
    floor = cc;
    root = cc;
  }

  -- whether there is no floor, and whether there is no commit
  pub none_told : (o : Option ℕ) (r : Bool) (last : Option (Committed K W)) → o ≡ option_map (λ c. c.snapshot.floor) last → is_some o ≡ not r
      → (IsTrue r ↔ IsLastRow h g None last)
  none_told o true None is told = (λ yes. refl, λ none. refl)
  none_told o false None is told = absurd (let a : is_some o ≡ false = ap is_some is in cc)
  none_told o true (Some c) is told = absurd (let a : is_some o ≡ true = ap is_some is in cc)
  none_told o false (Some c) is told = (λ yes. absurd (cc), λ none. absurd none)

  -- no row is the last one where there is no commit
  pub floor_told : (last : Option (Committed K W)) (row : Commit) → None ≡ option_map (λ c. c.snapshot.floor) last → (IsTrue false ↔ IsLastRow h g (Some row) last)
  floor_told None row is = (λ yes. absurd (cc), λ told. absurd (cc))
  floor_told (Some c) row is = absurd (cc)

  pub root_told : (last : Option (Committed K W)) (row : Commit) → None ≡ option_map (λ c. canonical_root h g c.snapshot) last → (IsTrue false ↔ IsLastRow h g (Some row) last)
  root_told None row is = (λ yes. absurd (cc), λ told. absurd (cc))
  root_told (Some c) row is = absurd (cc)

  -- what the row of the last commit says
  pub row_told : (last : Option (Committed K W)) (operations : List (List ℕ)) (row : Commit) (r : Bool) (location floor : ℕ) (root : List ℕ)
      → MatchOption last (operations ≡ []) (λ c. c.snapshot.operations ≡ operations) → location ≡ length operations - 1
      → Some floor ≡ option_map (λ c. c.snapshot.floor) last → Some root ≡ option_map (λ c. canonical_root h g c.snapshot) last
      → (IsTrue r ↔ (row.location ≡ location) × (row.floor ≡ floor) × (row.root ≡ root)) → (IsTrue r ↔ IsLastRow h g (Some row) last)
  row_told None operations row r location floor root all at low is told = absurd (cc)
  row_told (Some c) operations row r location floor root all at low is told =
      let here : location ≡ length c.snapshot.operations - 1 = at ∙ ap (λ (o : List (List ℕ)). length o - 1) (sym all) in
      let low_is : floor ≡ c.snapshot.floor = cc in
      let root_is : root ≡ canonical_root h g c.snapshot = cc in (
        λ yes. let says = told.0 yes in record { location = says.0 ∙ here; floor = says.1 ∙ low_is; root = says.2 ∙ root_is },
        λ row_of. told.1 (row_of.location ∙ sym here, row_of.floor ∙ sym low_is, row_of.root ∙ sym root_is),
      )

-- the last of a list, as a reference
seen_through : {X Y : Type 0} (f : X → Y) (r : Option (Bor X)) → option_map (λ it. f it.now) r ≡ option_map f (option_copied r)
seen_through f None = refl
seen_through f (Some x) = refl

pub last_is : {X Y : Type 0} (f : X → Y) (xs : List X) (ys : List Y) (r : Option (Bor X)) → option_copied r ≡ slice_get xs (length xs - 1) → map f xs ≡ ys
    → option_map (λ it. f it.now) r ≡ slice_get ys (length ys - 1)
last_is {Y = Y} f xs ys r is all =
    seen_through f r ∙ ap (option_map f) is ∙ sym (slice_get-map f xs (length xs - 1)) ∙ ap (λ n. slice_get (map f xs) (n - 1)) (sym (length-map xs f))
    ∙ ap (λ (l : List Y). slice_get l (length l - 1)) all
