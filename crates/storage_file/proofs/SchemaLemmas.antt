-- The trees tell the schema.
use Rattle.std.proofs.Common.{◌≡◌, ℕ, ◌+◌, pos, List, [], ◌∷◌, refl, sym, ap, ap₂, subst, ◌∙◌, arith}
use Rattle.std.specs.List.{AllZip}
use Rattle.sqlite.specs.declared.types.Value.{Value}
use Rattle.sqlite.specs.declared.types.Value.TheVariants.{Int, Text}
use Rattle.sqlite.specs.Order.{Row}
use Rattle.sqlite.specs.Table.{Table}
use Rattle.sqlite.specs.Schema.{Schema}
use Rattle.sqlite.specs.Tree.{Trees}
use Rattle.sqlite.specs.State.{State, IsLive, Opens}
use Rattle.sqlite.specs.Effect.{Database}
use Rattle.sqlite_catalog.specs.Listing.{IsSound, IsTableRow, DefinesTable}
use Rattle.sqlite_resolve.specs.Compile.{table_defined_by}
use Rattle.storage_file.specs.Kept.{Kept}
use Rattle.storage_file.specs.Tables.{three_tables, schema_of, no_schema, file_schema, Lists, Holds, Shows, IsBlank}

same_zip : {X Y : Type 0} (R : X → Y → Type 0) → ((x : X) (y z : Y) → R x y → R x z → z ≡ y) → (xs : List X) (ys zs : List Y) → AllZip R xs ys → AllZip R xs zs → zs ≡ ys
same_zip R once [] [] [] p q = refl
same_zip R once [] [] (z ∷ zs) p q = absurd q
same_zip R once [] (y ∷ ys) zs p q = absurd p
same_zip R once (x ∷ xs) [] zs p q = absurd p
same_zip R once (x ∷ xs) (y ∷ ys) [] p q = absurd q
same_zip R once (x ∷ xs) (y ∷ ys) (z ∷ zs) p q = ap₂ (λ a b. a ∷ b) (once x y z p.0 q.0) (same_zip R once xs ys zs p.1 q.1)

no_zip : {X Y Z : Type 0} (R : X → Y → Type 0) (S : X → Z → Type 0) (xs : List X) (zs : List Z) → AllZip R xs [] → AllZip S xs zs → zs ≡ []
no_zip R S [] [] p q = refl
no_zip R S [] (z ∷ zs) p q = absurd q
no_zip R S (x ∷ xs) zs p q = absurd p

same_int : (m n : ℕ) → ◌≡◌ {A = Value} (Int (pos (m + 1))) (Int (pos (n + 1))) → n ≡ m
same_int m n h = let e : m + 1 ≡ n + 1 = cc in omega arith

same_text : (s t : List ℕ) → ◌≡◌ {A = Value} (Text s) (Text t) → t ≡ s
same_text s t h = cc

same_defined : (sql other : List ℕ) (s t : Table) → other ≡ sql → t.tree ≡ s.tree → DefinesTable sql s → DefinesTable other t → t ≡ s
same_defined sql other s t text tree p q =
    let made : q.0 ≡ p.0 = (let e = sym q.1 ∙ ap table_defined_by text ∙ p.1 in cc) in
    q.2 ∙ ap₂ (λ (m : Table) n. record m { tree = n }) made tree ∙ sym p.2

same_table : (row : Row) (s t : Table) → IsTableRow row s → IsTableRow row t → t ≡ s
same_table row s t p q =
    same_defined p.sql q.sql s t (same_text p.sql q.sql (sym p.sql_is ∙ q.sql_is)) (same_int s.tree t.tree (sym p.described.id ∙ q.described.id)) p.defined q.defined

schema_from : (s : Schema) (tables : List Table) → s.tables ≡ tables → s.indexes ≡ [] → s.views ≡ [] → s ≡ schema_of tables
schema_from s tables p q r = λ i. record { tables = p i; indexes = q i; views = r i }

pub schema_is : (s : Schema) (db : Trees) → IsSound file_schema db → IsSound s db → s ≡ file_schema
schema_is s db p q =
    let a = p.lists.listed in
    let b = q.lists.listed in
    schema_from s three_tables (same_zip IsTableRow same_table _ _ _ a.tables b.tables) (no_zip _ _ _ _ a.indexes b.indexes) (no_zip _ _ _ _ a.views b.views)

pub opened_shows : (s : State) (kept : Kept) → Opens s → IsLive s → Holds s.committed.trees kept → Shows s kept
opened_shows s kept fresh live is =
    let sound = (live fresh.is_open).1 in
    let lists : Lists s.committed kept = record { schema = schema_is s.committed.schema s.committed.trees is.sound sound; rows = is.rows } in
    record { is_open = fresh.is_open; autocommit = fresh.autocommit; now = subst (λ d. Lists d kept) (sym fresh.clean) lists; committed = lists; sound = sound }

pub opened_blank : (s : State) → Opens s → IsLive s → s.now.schema ≡ no_schema → IsBlank s
opened_blank s fresh live none = record {
  is_open = fresh.is_open;
  autocommit = fresh.autocommit;
  now = none;
  committed = ap (λ (d : Database). d.schema) (sym fresh.clean) ∙ none;
  sound = (live fresh.is_open).1;
}
