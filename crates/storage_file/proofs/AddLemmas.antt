-- What each INSERT adds to its list.
use Rattle.std.proofs.Common.{codes, ◌≡◌, ◌≢◌, ℕ, pos, List, [], ◌∷◌, ◌++◌, length, true, None, Ok, refl, sym, ap, ap₂, subst, ◌∙◌, arith}
use Rattle.sqlite.specs.declared.types.Value.TheVariants.{Null, Int, Text as Words, Blob}
use Rattle.sqlite.specs.Order.{Row}
use Rattle.sqlite.specs.Term.{Term}
use Rattle.sqlite.specs.Source.TheVariants.{Values}
use Rattle.sqlite.specs.Command.TheVariants.{Insert}
use Rattle.sqlite.specs.Cast.{cast, cast_row}
use Rattle.sqlite.specs.Kind.TheVariants.{Integer}
use Rattle.sqlite.specs.Does.{Tally, Does}
use Rattle.sqlite.specs.Effect.{Database, IsDatabase}
use Rattle.sqlite.specs.Tree.{put_row}
use Rattle.sqlite.specs.Listing.{understood}
use Rattle.sqlite.specs.State.{State, mode_of, ExecutesInside}
use Rattle.sqlite.proofs.Callers.{statement_of, runs_as}
use Rattle.storage_file.specs.Kept.{Agreement, Commit, Kept, made_new}
use Rattle.storage_file.specs.Tables.{agreed_cells, operation_cells, commit_cells, agreed_columns, operation_columns, commit_columns, operation_table, commit_table, agreed_table, file_schema, three_tables, stored, HasRows, Lists, IsMade, IsReady, HasEmpty}
use Rattle.storage_file.proofs.Texts.{Inserts, insert_agreed, insert_operation, insert_commit, agreed_terms, operation_terms, commit_terms, insert_agreed_is, insert_operation_is, insert_commit_is}
use Rattle.storage_file.proofs.InsertLemmas.{Puts, inserts, cast_null, cast_int}
use Rattle.storage_file.proofs.ListLemmas.{put_is}

-- what an INSERT that is done has done
pub record Done (old new : State) (params : Row) (text : List ℕ) (at : ℕ) (terms : List Term) (width : ℕ) : Type 0 where
  pub tally : Tally
  pub does : Does old.step_limit (mode_of old) params (record old.now { schema = file_schema }) text None (Insert at (Values terms width)) (Ok (tally, new.now))
  pub sound : IsDatabase new.now
  pub inside : new.in_transaction ≡ true

runs_inside : (old new : State) (params : Row) (text : List ℕ) (at : ℕ) (terms : List Term) (width count : ℕ) → Inserts text at terms width → old.now.schema ≡ file_schema
    → ExecutesInside 0 text params old new (Ok count) → Done old new params (statement_of text (understood file_schema text)) at terms width
runs_inside old new params text at terms width count is has h =
    let w = runs_as text params old new file_schema has (Insert at (Values terms width)) is.0 is.1 count h.0 in
    record {
      tally = w.tally;
      does = subst (λ s. Does old.step_limit (mode_of old) params (record old.now { schema = s }) (statement_of text (understood file_schema text)) None (Insert at (Values terms width)) (Ok (w.tally, new.now))) has w.changed;
      sound = w.sound;
      inside = h.1.mode;
    }

cast_operation : (n : ℕ) (bytes : List ℕ) → cast_row operation_table (Int (pos n) ∷ Null ∷ Blob bytes ∷ []) ≡ stored operation_cells n bytes
cast_operation n bytes = ap₂ (λ a b. a ∷ b ∷ Blob bytes ∷ []) (cast_int (pos n)) cast_null

pub adds_operation : (old new : State) (kept : Kept) (bytes : List ℕ) (count : ℕ) → IsMade old kept
    → ExecutesInside 0 insert_operation (Int (pos (length kept.operations)) ∷ Blob bytes ∷ []) old new (Ok count) → IsMade new (record kept { operations = kept.operations ++ bytes ∷ [] })
adds_operation old new kept bytes count made h =
    let n = length kept.operations in
    let done = runs_inside old new (Int (pos n) ∷ Blob bytes ∷ []) insert_operation 1 operation_terms 3 count insert_operation_is made.lists.schema h in
    let put = inserts (codes "operations") 1 (codes "location") operation_columns old.step_limit (mode_of old) (Int (pos n) ∷ Blob bytes ∷ []) 1 operation_terms 3
    (Int (pos n) ∷ Null ∷ Blob bytes ∷ []) (pos n) (Null ∷ Blob bytes ∷ []) old.now new.now done.tally refl (cast_operation n bytes) done.does in
    record {
      inside = done.inside;
      lists = record {
        schema = put.schema;
        rows = record {
          agreed = put.others 0 (λ e. absurd (omega arith)) ∙ made.lists.rows.agreed;
          operations = put.rows ∙ ap (put_row (stored operation_cells n bytes)) made.lists.rows.operations ∙ put_is operation_cells kept.operations bytes;
          commits = put.others 2 (λ e. absurd (omega arith)) ∙ made.lists.rows.commits;
        };
      };
    }

cast_commit : (n : ℕ) (c : Commit) → cast_row commit_table (Int (pos n) ∷ Null ∷ commit_cells c) ≡ stored commit_cells n c
cast_commit n c =
    ap₂ (λ a b. a ∷ b ∷ cast Integer (Int (pos c.location)) ∷ cast Integer (Int (pos c.floor)) ∷ Blob c.root ∷ []) (cast_int (pos n)) cast_null
    ∙ ap₂ (λ a b. Int (pos n) ∷ Null ∷ a ∷ b ∷ Blob c.root ∷ []) (cast_int (pos c.location)) (cast_int (pos c.floor))

pub adds_commit : (old new : State) (kept : Kept) (commit : Commit) (count : ℕ) → IsMade old kept
    → ExecutesInside 0 insert_commit (Int (pos (length kept.commits)) ∷ commit_cells commit) old new (Ok count) → IsReady new (record kept { commits = kept.commits ++ commit ∷ [] })
adds_commit old new kept commit count made h =
    let n = length kept.commits in
    let params = Int (pos n) ∷ commit_cells commit in
    let done = runs_inside old new params insert_commit 2 commit_terms 5 count insert_commit_is made.lists.schema h in
    let put = inserts (codes "commits") 2 (codes "number") commit_columns old.step_limit (mode_of old) params 2 commit_terms 5
    (Int (pos n) ∷ Null ∷ commit_cells commit) (pos n) (Null ∷ commit_cells commit) old.now new.now done.tally refl (cast_commit n commit) done.does in
    record {
      made = record {
        inside = done.inside;
        lists = record {
          schema = put.schema;
          rows = record {
            agreed = put.others 0 (λ e. absurd (omega arith)) ∙ made.lists.rows.agreed;
            operations = put.others 1 (λ e. absurd (omega arith)) ∙ made.lists.rows.operations;
            commits = put.rows ∙ ap (put_row (stored commit_cells n commit)) made.lists.rows.commits ∙ put_is commit_cells kept.commits commit;
          };
        };
      };
      sound = done.sound;
    }

cast_agreed : (a : Agreement) → cast_row agreed_table (Int (pos 0) ∷ Null ∷ agreed_cells a) ≡ stored agreed_cells 0 a
cast_agreed a =
    ap₂ (λ x y. x ∷ y ∷ cast Integer (Int (pos 1)) ∷ Words a.family ∷ Words a.digest ∷ cast Integer (Int (pos a.chunk_size)) ∷ Words a.key_encoding ∷ Words a.value_encoding ∷ []) (cast_int (pos 0)) cast_null
    ∙ ap₂ (λ x y. Int (pos 0) ∷ Null ∷ x ∷ Words a.family ∷ Words a.digest ∷ y ∷ Words a.key_encoding ∷ Words a.value_encoding ∷ []) (cast_int (pos 1)) (cast_int (pos a.chunk_size))

pub adds_agreement : (old new : State) (agreed : Agreement) (count : ℕ) → HasEmpty old three_tables
    → ExecutesInside 0 insert_agreed (agreed_cells agreed) old new (Ok count) → IsReady new (made_new agreed)
adds_agreement old new agreed count empty h =
    let done = runs_inside old new (agreed_cells agreed) insert_agreed 0 agreed_terms 8 count insert_agreed_is empty.schema h in
    let put = inserts (codes "agreed") 0 (codes "number") agreed_columns old.step_limit (mode_of old) (agreed_cells agreed) 0 agreed_terms 8
    (Int (pos 0) ∷ Null ∷ agreed_cells agreed) (pos 0) (Null ∷ agreed_cells agreed) old.now new.now done.tally refl (cast_agreed agreed) done.does in
    record {
      made = record {
        inside = done.inside;
        lists = record {
          schema = put.schema;
          rows = record {
            agreed = put.rows ∙ ap (put_row (stored agreed_cells 0 agreed)) empty.rows.0;
            operations = put.others 1 (λ e. absurd (omega arith)) ∙ empty.rows.1.0;
            commits = put.others 2 (λ e. absurd (omega arith)) ∙ empty.rows.1.1.0;
          };
        };
      };
      sound = done.sound;
    }
