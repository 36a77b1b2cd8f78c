-- What an INSERT of one row does to the tables.
use Rattle.std.proofs.Common.{◌≡◌, ◌≢◌, ◌⊎◌, inl, inr, ℕ, ℤ, ◌/◌, List, [], ◌∷◌, ◌++◌, length, Bool, true, false, cond, Option, None, Ok, Err, Result, refl, sym, ap, subst, ◌∙◌}
use Rattle.sqlite.specs.declared.types.Value.{Value}
use Rattle.sqlite.specs.declared.types.Value.TheVariants.{Null, Int}
use Rattle.sqlite.specs.Order.{Row}
use Rattle.sqlite.specs.Ops.{unary}
use Rattle.sqlite.specs.Term.{Term}
use Rattle.sqlite.specs.Source.TheVariants.{Values}
use Rattle.sqlite.specs.Command.TheVariants.{Insert}
use Rattle.sqlite.specs.Cast.{cast, cast_row}
use Rattle.sqlite.specs.Kind.TheVariants.{Integer}
use Rattle.sqlite.specs.Edit.{edit_of, edited, with_rowid}
use Rattle.sqlite.specs.Rowids.TheVariants.{Chosen}
use Rattle.sqlite_schema.specs.declared.schema.Column.{Column}
use Rattle.sqlite.specs.Does.{Tally, OnRows}
use Rattle.sqlite.specs.Rows.{Written, Task}
use Rattle.sqlite.specs.Effect.{Database, value_rows}
use Rattle.sqlite.specs.declared.run.Mode.{Mode}
use Rattle.sqlite.specs.Tree.{Trees, put_row}
use Rattle.sqlite.proofs.Callers.{one_step}
use Rattle.storage_file.specs.Tables.{table_of, file_schema}

either : (b : Bool) (x : Value) → cond b x x ≡ x
either true x = refl
either false x = refl

pub cast_null : cast Integer Null ≡ Null
unfolding unary
cast_null = either _ Null

pub cast_int : (n : ℤ) → cast Integer (Int n) ≡ Int n
unfolding unary
cast_int n = either _ (Int n)

-- a part that gave a value did not stop on the way
pub went : {B E R : Type 0} {b : B} {Stops : E → Type 0} → ((stop : E) × Stops stop × (Ok b ≡ Err stop)) ⊎ R → R
went (inl stopped) = absurd (let e = stopped.2 in cc)
went (inr on) = on

pub same_value : {B E : Type 0} {a b : B} → ◌≡◌ {A = Result B E} (Ok a) (Ok b) → a ≡ b
same_value e = cc

-- one row is put into one tree, and every other tree is as it was
pub record Puts (old new : Database) (tree : ℕ) (row : Row) : Type 0 where
  pub schema : new.schema ≡ file_schema
  pub rows : new.trees tree ≡ put_row row (old.trees tree)
  pub others : (t : ℕ) → t ≢ tree → new.trees t ≡ old.trees t

module _ (name : List ℕ) (tree : ℕ) (key : List ℕ) (columns : List Column) where
  pub inserts : (limit : Option ℕ) (mode : Mode) (params : Row) (at : ℕ) (terms : List Term) (width : ℕ) (source : Row) (id : ℤ) (cells : Row) (old new : Database) (tally : Tally)
      → value_rows (params ++ []) width (length terms / width) terms ≡ source ∷ [] → cast_row (table_of name tree key columns) source ≡ Int id ∷ cells
      → OnRows (record { limit = limit; keys = mode.keys; schema = file_schema; table = table_of name tree key columns; params = params }) mode None (Insert at (Values terms width)) old.trees (Ok (tally, new))
      → Puts old new tree (Int id ∷ cells)
  inserts limit mode params at terms width source id cells old new tally one is does =
      let table = table_of name tree key columns in
      let db = old.trees in
      let done = went does in
      let now = ap (λ (p : Tally × Database). p.1) (same_value (went (went done.2).2).2) in
      let given = went done.1 in
      let written = went (went given.2).2 in
      let counted = went written.2 in
      let trees : done.0.trees ≡ written.0 = ap (λ (it : Written). it.trees) (same_value counted.2) ∙ same_value counted.1 in
      let applied = one_step file_schema mode.keys db written.0 (edit_of db table [] Chosen 0 given.0) refl written.1 in
      let edit = ap (λ all. edited db (edit_of db table [] Chosen 0 all)) (given.1.1 ∙ one) ∙ ap (λ r. put_row (with_rowid Chosen (db tree) r) (db tree)) is in
      let all : new.trees ≡ written.0 = ap (λ (d : Database). d.trees) now ∙ trees in
      record { schema = ap (λ (d : Database). d.schema) now; rows = ap (λ (t : Trees). t tree) all ∙ applied.rows ∙ edit; others = λ t differs. ap (λ (d : Trees). d t) all ∙ applied.others t differs tt }
