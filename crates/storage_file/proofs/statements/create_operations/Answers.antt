use Rattle.std.proofs.Common.{ℕ, [], Ok, Err, Result, OnOk}
use Rattle.sqlite.specs.declared.error.Error.{Error}
use Rattle.sqlite.specs.Held.{state}
use Rattle.sqlite.specs.State.{State, ExecutesInside}
use Rattle.storage_file.specs.Tables.{HasEmpty, one_table, two_tables}
use Rattle.storage_file.proofs.Texts.{create_operations}
use Rattle.storage_file.proofs.InsideLemmas.{statement_stays}
use Rattle.storage_file.proofs.CreateLemmas.{makes_operations}
use Rattle.storage_file.proofs.statements.create_operations.Goals as goal

if_ok : (old new : State) (r : Result ℕ Error) → HasEmpty old one_table → ExecutesInside 0 create_operations [] old new r → OnOk r (HasEmpty new two_tables)
if_ok old new (Ok count) empty h = makes_operations old new count empty h
if_ok old new (Err e) empty h = tt

pub returns-clause-inside : goal.returns-clause-inside
returns-clause-inside g c =
    statement_stays g.S.Store create_operations [] c.args.tx.now.conn.now c.execute.new.self.conn.now c.execute.result c.execute.ensures.ended c.execute.ensures.runs c.execute.ensures.survives

pub returns-clause-made : goal.returns-clause-made
returns-clause-made g c clean empty =
    if_ok (state g.S.Store c.args.tx.now.conn.now) (state g.S.Store c.execute.new.self.conn.now) c.execute.result empty (c.execute.ensures.runs clean empty.inside)
