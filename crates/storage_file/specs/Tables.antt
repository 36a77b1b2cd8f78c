-- The three tables of a file, and the lists that they show.
use Rattle.std.specs.Prelude.{◌≡◌, ◌⊎◌, ℕ, ◌+◌, pos, true, false, List, [], ◌∷◌, codes, Some, IsTrue}
use Rattle.std.specs.List.{AllByRecursion}
use Rattle.sqlite.specs.Collation.TheVariants.{Binary}
use Rattle.sqlite.specs.declared.types.Value.TheVariants.{Null, Int, Text as Words, Blob as Bytes}
use Rattle.sqlite.specs.Order.{Row}
use Rattle.sqlite.specs.Table.{Table}
use Rattle.sqlite_schema.specs.declared.schema.Column.{Column}
use Rattle.sqlite.specs.Schema.{Schema}
use Rattle.sqlite.specs.Kind.{Kind}
use Rattle.sqlite.specs.Kind.TheVariants.{Integer, Text, Blob}
use Rattle.sqlite.specs.Tree.{Trees}
use Rattle.sqlite.specs.Effect.{Database, IsDatabase}
use Rattle.sqlite_catalog.specs.Listing.{IsSound}
use Rattle.sqlite.specs.State.{State, HasCleanDisk, Survives, KeepsCommit, IsUnchanged, IsRolledBack}
use Rattle.storage_file.specs.Kept.{Agreement, Commit, Kept}

-- ---- the tables

abbrev pub column_of : List ℕ → Kind → Column
column_of name kind = record { name = name; kind = kind; is_strict = true; not_null = true; default = Null; collation = Binary }

-- a strict table whose first column is its INTEGER PRIMARY KEY
abbrev pub table_of : List ℕ → ℕ → List ℕ → List Column → Table
table_of name tree key columns = record {
  name = name;
  tree = tree;
  columns = (record { name = key; kind = Integer; is_strict = true; not_null = false; default = Null; collation = Binary }) ∷ columns;
  key = Some 0;
  primary = 0 ∷ [];
  uniques = [];
  orders = [];
  checks = [];
  references = [];
  computed = [];
  stamps = record { places = []; terms = []; formats = [] };
  is_counted = false;
}

abbrev pub agreed_columns : List Column
agreed_columns =
    column_of (codes "version") Integer ∷ column_of (codes "family") Text ∷ column_of (codes "digest") Text ∷ column_of (codes "chunk_size") Integer ∷ column_of (codes "key_encoding") Text
    ∷ column_of (codes "value_encoding") Text ∷ []

abbrev pub operation_columns : List Column
operation_columns = column_of (codes "bytes") Blob ∷ []

abbrev pub commit_columns : List Column
commit_columns = column_of (codes "location") Integer ∷ column_of (codes "floor") Integer ∷ column_of (codes "root") Blob ∷ []

abbrev pub agreed_table : Table
agreed_table = table_of (codes "agreed") 0 (codes "number") agreed_columns

abbrev pub operation_table : Table
operation_table = table_of (codes "operations") 1 (codes "location") operation_columns

abbrev pub commit_table : Table
commit_table = table_of (codes "commits") 2 (codes "number") commit_columns

abbrev pub schema_of : List Table → Schema
schema_of tables = record { tables = tables; indexes = []; views = [] }

abbrev pub no_schema : Schema
no_schema = schema_of []

abbrev pub one_table : List Table
one_table = agreed_table ∷ []

abbrev pub two_tables : List Table
two_tables = agreed_table ∷ operation_table ∷ []

abbrev pub three_tables : List Table
three_tables = agreed_table ∷ operation_table ∷ commit_table ∷ []

abbrev pub file_schema : Schema
file_schema = schema_of three_tables

-- ---- the rows

abbrev pub layout_version : ℕ
layout_version = 1

abbrev pub agreed_cells : Agreement → Row
agreed_cells a = Int (pos layout_version) ∷ Words a.family ∷ Words a.digest ∷ Int (pos a.chunk_size) ∷ Words a.key_encoding ∷ Words a.value_encoding ∷ []

abbrev pub operation_cells : List ℕ → Row
operation_cells bytes = Bytes bytes ∷ []

abbrev pub commit_cells : Commit → Row
commit_cells c = Int (pos c.location) ∷ Int (pos c.floor) ∷ Bytes c.root ∷ []

-- A row as it is stored: its number, and NULL in the column of its number.
abbrev pub stored : {X : Type 0} → (X → Row) → ℕ → X → Row
stored cells number x = Int (pos number) ∷ Null ∷ cells x

-- the rows of a list, numbered from this one on
abbrev pub numbered : {X : Type 0} → (X → Row) → ℕ → List X → List Row
numbered cells number [] = []
numbered cells number (x ∷ xs) = stored cells number x ∷ numbered cells (number + 1) xs

-- a row as a query shows it: its number, and its cells
abbrev pub shown : {X : Type 0} → (X → Row) → ℕ → X → Row
shown cells number x = Int (pos number) ∷ cells x

abbrev pub shown_from : {X : Type 0} → (X → Row) → ℕ → List X → List Row
shown_from cells number [] = []
shown_from cells number (x ∷ xs) = shown cells number x ∷ shown_from cells (number + 1) xs

pub record HasRows (trees : Trees) (kept : Kept) : Type 0 where
  pub agreed : trees 0 ≡ numbered agreed_cells 0 (kept.agreed ∷ [])
  pub operations : trees 1 ≡ numbered operation_cells 0 kept.operations
  pub commits : trees 2 ≡ numbered commit_cells 0 kept.commits

-- ---- the relations

-- the database has the three tables, and they show this
pub record Lists (db : Database) (kept : Kept) : Type 0 where
  pub schema : db.schema ≡ file_schema
  pub rows : HasRows db.trees kept

-- what a disk has to hold: trees that list the schema and obey it, and these rows
pub record Holds (trees : Trees) (kept : Kept) : Type 0 where
  pub sound : IsSound file_schema trees
  pub rows : HasRows trees kept

-- The connection is open, in no transaction, and what it sees is what was committed; both are so.
pub record IsSettled (P : Database → Type 0) (s : State) : Type 0 where
  pub is_open : IsTrue s.is_open
  pub autocommit : s.in_transaction ≡ false
  pub now : P s.now
  pub committed : P s.committed
  pub sound : IsDatabase s.committed

-- the tables of the connection show this, and so does the last commit
abbrev pub Shows : State → Kept → Type 0
Shows s kept = IsSettled (λ db. Lists db kept) s

-- the connection has no table yet
abbrev pub IsBlank : State → Type 0
IsBlank s = IsSettled (λ db. db.schema ≡ no_schema) s

-- ---- inside a transaction

-- the transaction has made this, of which nothing is committed yet
pub record IsMade (s : State) (kept : Kept) : Type 0 where
  pub inside : s.in_transaction ≡ true
  pub lists : Lists s.now kept

-- the same, and it may be committed
pub record IsReady (s : State) (kept : Kept) : Type 0 where
  pub made : IsMade s kept
  pub sound : IsDatabase s.now

-- the transaction has these tables, with no rows
pub record HasEmpty (s : State) (tables : List Table) : Type 0 where
  pub inside : s.in_transaction ≡ true
  pub schema : s.now.schema ≡ schema_of tables
  pub rows : AllByRecursion (λ t. s.now.trees t.tree ≡ []) tables

-- a part of a transaction: the last commit is as it was, and a crash leaves what it left before
pub record StaysInside (old new : State) : Type 0 where
  pub survives : Survives old new (λ _. ⊥)
  pub commit : HasCleanDisk new → KeepsCommit old new

-- ---- reading

-- a query: nothing is changed, or a failure undid what was not committed, and a crash leaves what it left before
pub record Reads (old new : State) : Type 0 where
  pub survives : Survives old new (λ _. ⊥)
  pub ends : HasCleanDisk new → IsUnchanged old new ⊎ IsRolledBack old new
