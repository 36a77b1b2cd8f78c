use Rattle.std.proofs.Common.{◌≡◌, ◌∷◌, [], List, inl, IfOk, OnOk, Ok, Err, Result, ◌⊎◌}
use Rattle.sqlite.specs.Order.{Row}
use Rattle.sqlite.specs.declared.error.Error.{Error}
use Rattle.sqlite.specs.Held.{state}
use Rattle.sqlite.specs.State.{State, HasCleanDisk, Shown, IsUnchanged, IsRolledBack, FailsToQuery}
use Rattle.std.specs.Prelude.{IfErr}
use Rattle.storage_file.specs.Kept.{Kept}
use Rattle.storage_file.specs.Tables.{file_schema, Lists, shown_from, operation_cells}
use Rattle.storage_file.proofs.Texts.{select_operations, select_operations_is}
use Rattle.storage_file.proofs.QueryLemmas.{shows_operations, shown_same, same_or_undone, query_survives}
use Rattle.storage_file.proofs.queries.operation_rows.Goals as goal

if_shown : {V : Type 0} (rows : V → List Row) (old new : State) (kept : Kept) (r : Result V Error) → Lists old.now kept → IfOk r (λ v. Shown select_operations [] old new (rows v)) → IfOk r (λ v. rows v ≡ shown_from operation_cells 0 kept.operations)
if_shown rows old new kept (Ok v) is h = shows_operations old new kept is (rows v) h
if_shown rows old new kept (Err e) is h = tt

if_same : {V : Type 0} (rows : V → List Row) (old new : State) (kept : Kept) (r : Result V Error) → Lists old.now kept → IfOk r (λ v. Shown select_operations [] old new (rows v)) → OnOk r (IsUnchanged old new)
if_same rows old new kept (Ok v) is h = shown_same select_operations old new (rows v) select_operations_is.2 is.schema h
if_same rows old new kept (Err e) is h = tt

ends : {V : Type 0} (rows : V → List Row) (old new : State) (kept : Kept) (r : Result V Error) → Lists old.now kept → IfOk r (λ v. Shown select_operations [] old new (rows v)) → IfErr r (FailsToQuery select_operations [] old new)
    → IsUnchanged old new ⊎ IsRolledBack old new
ends rows old new kept (Ok v) is h f = inl (shown_same select_operations old new (rows v) select_operations_is.2 is.schema h)
ends rows old new kept (Err e) is h f = same_or_undone select_operations old new e f

pub returns-clause-shown : goal.returns-clause-shown
returns-clause-shown g c clean kept is = if_shown (λ v. v.items) (state g.S.Store c.args.conn.now) (state g.S.Store c.query_all.new.self) kept c.query_all.result is (c.query_all.ensures.ok clean)

pub returns-clause-same : goal.returns-clause-same
returns-clause-same g c clean kept is = if_same (λ v. v.items) (state g.S.Store c.args.conn.now) (state g.S.Store c.query_all.new.self) kept c.query_all.result is (c.query_all.ensures.ok clean)

pub returns-clause-reads : goal.returns-clause-reads
returns-clause-reads g c kept is = record {
  survives = query_survives select_operations (state g.S.Store c.args.conn.now) (state g.S.Store c.query_all.new.self) select_operations_is.2 is.schema c.query_all.ensures.survives;
  ends = λ clean. ends (λ v. v.items) (state g.S.Store c.args.conn.now) (state g.S.Store c.query_all.new.self) kept c.query_all.result is (c.query_all.ensures.ok clean) (c.query_all.ensures.err clean);
}
