-- What each CREATE makes.
use Rattle.std.proofs.Common.{codes, ◌≡◌, ℕ, List, [], ◌∷◌, ◌++◌, true, false, None, Ok, Result, refl, sym, ap, subst, ◌∙◌}
use Rattle.std.specs.List.{AllByRecursion}
use Rattle.sqlite.specs.Command.TheVariants.{CreateTable}
use Rattle.sqlite.specs.Change.{created, next_tree, KeepsRows}
use Rattle.sqlite.specs.Does.{Tally, Does, lacks_sequence}
use Rattle.sqlite.specs.Effect.{Database}
use Rattle.sqlite.specs.Table.{Table}
use Rattle.sqlite.specs.declared.run.Mode.{Mode}
use Rattle.sqlite.specs.State.{State, mode_of, Writes, ExecutesInside}
use Rattle.sqlite.proofs.Callers.{runs_as}
use Rattle.storage_file.specs.Tables.{table_of, agreed_columns, operation_columns, commit_columns, one_table, two_tables, three_tables, schema_of, HasEmpty}
use Rattle.storage_file.proofs.Texts.{Creates, create_agreed, create_operations, create_commits, create_agreed_is, create_operations_is, create_commits_is}
use Rattle.storage_file.proofs.InsertLemmas.{went, same_value}

-- the table is there, with no rows, and those that were there have theirs
pub record Makes (tables : List Table) (made : Table) (old new : Database) : Type 0 where
  pub schema : new.schema ≡ created (schema_of tables) made
  pub empty : new.trees (next_tree (schema_of tables)) ≡ []
  pub others : KeepsRows tables old.trees new.trees

makes : (tables : List Table) (made : Table) (limit : _) (mode : Mode) (text : List ℕ) (old new : Database) (tally : Tally) → old.schema ≡ schema_of tables → lacks_sequence (created (schema_of tables) made) ≡ false
    → Creates tables text made → Does limit mode [] old text None CreateTable (Ok (tally, new)) → Makes tables made old new
makes tables made limit mode text old new tally has plain is does =
    let all = went does in
    let first = went all.1 in
    let it = first.1 in
    let both : ◌≡◌ {A = Result _ _} (Ok it.table) (Ok made) = sym it.defined ∙ is.2 in
    let same : it.table ≡ made = cc in
    let schema : first.0.schema ≡ created (schema_of tables) made = it.is ∙ ap (λ s. created s it.table) has ∙ ap (created (schema_of tables)) same in
    let none : lacks_sequence first.0.schema ≡ false = ap lacks_sequence schema ∙ plain in
    let now : new ≡ first.0 = ap (λ (p : Tally × Database). p.1) (same_value all.2) ∙ same_value (rw none at first.2) in
    subst (Makes tables made old) (sym now) (record { schema = schema; empty = subst (λ s. first.0.trees (next_tree s) ≡ []) has it.empty; others = subst (λ s. KeepsRows s.tables old.trees first.0.trees) has it.others })

runs_inside : (tables : List Table) (made : Table) (old new : State) (text : List ℕ) (count : ℕ) → old.now.schema ≡ schema_of tables → lacks_sequence (created (schema_of tables) made) ≡ false
    → Creates tables text made → ExecutesInside 0 text [] old new (Ok count) → Makes tables made old.now new.now
runs_inside tables made old new text count has plain is h =
    let w = subst (λ t. Writes old new None CreateTable t [] count) is.1 (runs_as text [] old new (schema_of tables) has CreateTable is.0 is.3 count h.0) in
    makes tables made old.step_limit (mode_of old) text old.now new.now w.tally has plain is w.changed

pub makes_agreed : (old new : State) (count : ℕ) → HasEmpty old [] → ExecutesInside 0 create_agreed [] old new (Ok count) → HasEmpty new one_table
makes_agreed old new count empty h =
    let it = runs_inside [] (table_of (codes "agreed") 0 (codes "number") agreed_columns) old new create_agreed count empty.schema refl create_agreed_is h in
    record { inside = h.1.mode; schema = it.schema; rows = (it.empty, tt) }

pub makes_operations : (old new : State) (count : ℕ) → HasEmpty old one_table → ExecutesInside 0 create_operations [] old new (Ok count) → HasEmpty new two_tables
makes_operations old new count empty h =
    let it = runs_inside one_table (table_of (codes "operations") 0 (codes "location") operation_columns) old new create_operations count empty.schema refl create_operations_is h in
    record { inside = h.1.mode; schema = it.schema; rows = (it.others.0 ∙ empty.rows.0, (it.empty, tt)) }

pub makes_commits : (old new : State) (count : ℕ) → HasEmpty old two_tables → ExecutesInside 0 create_commits [] old new (Ok count) → HasEmpty new three_tables
makes_commits old new count empty h =
    let it = runs_inside two_tables (table_of (codes "commits") 0 (codes "number") commit_columns) old new create_commits count empty.schema refl create_commits_is h in
    record { inside = h.1.mode; schema = it.schema; rows = (it.others.0 ∙ empty.rows.0, (it.others.1.0 ∙ empty.rows.1.0, (it.empty, tt))) }
