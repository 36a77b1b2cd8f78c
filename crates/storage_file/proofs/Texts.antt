-- What the texts mean.
use Rattle.std.proofs.Common.{◌≡◌, ℕ, pos, negsuc, List, [], ◌∷◌, codes, false, None, Ok, refl}
use Rattle.sqlite.specs.declared.types.Value.TheVariants.{Null, Int}
use Rattle.sqlite.specs.Collation.TheVariants.{Binary}
use Rattle.sqlite.specs.Term.{Term, lit, col}
use Rattle.sqlite.specs.Query.{Query, inner, end}
use Rattle.sqlite.specs.Source.TheVariants.{Values}
use Rattle.sqlite.specs.Command.TheVariants.{Insert, Select, CreateTable}
use Rattle.sqlite.specs.Compile.{table_defined_by}
use Rattle.sqlite.specs.Table.{Table}
use Rattle.sqlite_tied.specs.Compute.{everything}
use Rattle.sqlite.specs.Listing.{understood, reads_listing}
use Rattle.sqlite.proofs.Callers.{IsPlain, command_of, statement_of}
use Rattle.storage_file.specs.Tables.{table_of, agreed_columns, operation_columns, commit_columns, one_table, two_tables, schema_of, file_schema}

-- ---- CREATE

abbrev pub create_agreed : List ℕ
create_agreed =
    codes "CREATE TABLE agreed (number INTEGER PRIMARY KEY, version INTEGER NOT NULL, family TEXT NOT NULL, digest TEXT NOT NULL, chunk_size INTEGER NOT NULL, key_encoding TEXT NOT NULL, value_encoding TEXT NOT NULL) STRICT"

abbrev pub create_operations : List ℕ
create_operations = codes "CREATE TABLE operations (location INTEGER PRIMARY KEY, bytes BLOB NOT NULL) STRICT"

abbrev pub create_commits : List ℕ
create_commits = codes "CREATE TABLE commits (number INTEGER PRIMARY KEY, location INTEGER NOT NULL, floor INTEGER NOT NULL, root BLOB NOT NULL) STRICT"

-- the text makes this table, and is a CREATE where there are these tables
abbrev pub Creates : List Table → List ℕ → Table → Type 0
Creates tables text made =
    (command_of (understood (schema_of tables) text) ≡ CreateTable) × (statement_of text (understood (schema_of tables) text) ≡ text) × (table_defined_by text ≡ Ok made)
    × IsPlain (understood (schema_of tables) text)

pub create_agreed_is : Creates [] create_agreed (table_of (codes "agreed") 0 (codes "number") agreed_columns)
unfolding understood everything
create_agreed_is = (refl, refl, refl, (refl, refl))

pub create_operations_is : Creates one_table create_operations (table_of (codes "operations") 0 (codes "location") operation_columns)
unfolding understood everything
create_operations_is = (refl, refl, refl, (refl, refl))

pub create_commits_is : Creates two_tables create_commits (table_of (codes "commits") 0 (codes "number") commit_columns)
unfolding understood everything
create_commits_is = (refl, refl, refl, (refl, refl))

-- ---- INSERT

abbrev pub insert_agreed : List ℕ
insert_agreed =
    codes "INSERT INTO agreed (number, version, family, digest, chunk_size, key_encoding, value_encoding) VALUES (0, ?1, ?2, ?3, ?4, ?5, ?6)"

abbrev pub insert_operation : List ℕ
insert_operation = codes "INSERT INTO operations (location, bytes) VALUES (?1, ?2)"

abbrev pub insert_commit : List ℕ
insert_commit = codes "INSERT INTO commits (number, location, floor, root) VALUES (?1, ?2, ?3, ?4)"

abbrev pub agreed_terms : List Term
agreed_terms = lit (Int (pos 0)) ∷ lit Null ∷ col 0 0 ∷ col 0 1 ∷ col 0 2 ∷ col 0 3 ∷ col 0 4 ∷ col 0 5 ∷ []

abbrev pub operation_terms : List Term
operation_terms = col 0 0 ∷ lit Null ∷ col 0 1 ∷ []

abbrev pub commit_terms : List Term
commit_terms = col 0 0 ∷ lit Null ∷ col 0 1 ∷ col 0 2 ∷ col 0 3 ∷ []

-- the text puts in one row of these terms
abbrev pub Inserts : List ℕ → ℕ → List Term → ℕ → Type 0
Inserts text at terms width = (command_of (understood file_schema text) ≡ Insert at (Values terms width)) × IsPlain (understood file_schema text)

pub insert_agreed_is : Inserts insert_agreed 0 agreed_terms 8
unfolding understood everything
insert_agreed_is = (refl, (refl, refl))

pub insert_operation_is : Inserts insert_operation 1 operation_terms 3
unfolding understood everything
insert_operation_is = (refl, (refl, refl))

pub insert_commit_is : Inserts insert_commit 2 commit_terms 5
unfolding understood everything
insert_commit_is = (refl, (refl, refl))

-- ---- SELECT

abbrev pub select_agreed : List ℕ
select_agreed = codes "SELECT number, version, family, digest, chunk_size, key_encoding, value_encoding FROM agreed ORDER BY number"

abbrev pub select_operations : List ℕ
select_operations = codes "SELECT location, bytes FROM operations ORDER BY location"

abbrev pub select_commits : List ℕ
select_commits = codes "SELECT number, location, floor, root FROM commits ORDER BY number"

abbrev pub agreed_project : List Term
agreed_project = col 1 0 ∷ col 1 2 ∷ col 1 3 ∷ col 1 4 ∷ col 1 5 ∷ col 1 6 ∷ col 1 7 ∷ []

abbrev pub operation_project : List Term
operation_project = col 1 0 ∷ col 1 2 ∷ []

abbrev pub commit_project : List Term
commit_project = col 1 0 ∷ col 1 2 ∷ col 1 3 ∷ col 1 4 ∷ []

-- these columns of each row of a table, in the order of the rows' numbers
abbrev pub query_of : ℕ → List Term → Query
query_of tree project = record {
  from = inner tree end;
  filter = [];
  group = None;
  project = project;
  distinct = false;
  collations = [];
  order = (col 1 0, record { collation = Binary; descending = false }) ∷ [];
  limit = lit (Int (negsuc 0));
  offset = lit (Int (pos 0));
}

abbrev pub Selects : List ℕ → ℕ → List Term → List (List ℕ) → Type 0
Selects text tree project names =
    (command_of (understood file_schema text) ≡ Select (record { lets = []; body = query_of tree project }) names) × (reads_listing file_schema text ≡ false) × IsPlain (understood file_schema text)

pub select_agreed_is : Selects select_agreed 0 agreed_project
    (codes "number" ∷ codes "version" ∷ codes "family" ∷ codes "digest" ∷ codes "chunk_size" ∷ codes "key_encoding" ∷ codes "value_encoding" ∷ [])
unfolding understood everything
select_agreed_is = (refl, refl, (refl, refl))

pub select_operations_is : Selects select_operations 1 operation_project (codes "location" ∷ codes "bytes" ∷ [])
unfolding understood everything
select_operations_is = (refl, refl, (refl, refl))

pub select_commits_is : Selects select_commits 2 commit_project (codes "number" ∷ codes "location" ∷ codes "floor" ∷ codes "root" ∷ [])
unfolding understood everything
select_commits_is = (refl, refl, (refl, refl))
