use Rattle.std.proofs.Common.{◌≡◌, ℕ, List, [], ◌∷◌, Ok, Err, Result, OnOk}
use Rattle.sqlite.specs.declared.error.Error.{Error}
use Rattle.sqlite.specs.Held.{state}
use Rattle.sqlite.specs.State.{State, ExecutesInside}
use Rattle.storage_file.specs.Kept.{Agreement, made_new}
use Rattle.storage_file.specs.Given.{agreement_of}
use Rattle.storage_file.specs.Tables.{HasEmpty, IsReady, agreed_cells, three_tables}
use Rattle.storage_file.proofs.Texts.{insert_agreed}
use Rattle.storage_file.proofs.InsideLemmas.{statement_stays}
use Rattle.storage_file.proofs.AddLemmas.{adds_agreement}
use Rattle.storage_file.proofs.statements.add_agreement.Goals as goal

if_ok : (old new : State) (agreed : Agreement) (r : Result ℕ Error) → HasEmpty old three_tables → ExecutesInside 0 insert_agreed (agreed_cells agreed) old new r → OnOk r (IsReady new (made_new agreed))
if_ok old new agreed (Ok count) empty h = adds_agreement old new agreed count empty h
if_ok old new agreed (Err e) empty h = tt

pub returns-clause-inside : goal.returns-clause-inside
returns-clause-inside g c =
    statement_stays g.S.Store insert_agreed _ c.args.tx.now.conn.now c.execute.new.self.conn.now c.execute.result c.execute.ensures.ended c.execute.ensures.runs c.execute.ensures.survives

pub returns-clause-added : goal.returns-clause-added
returns-clause-added g c clean empty =
    if_ok (state g.S.Store c.args.tx.now.conn.now) (state g.S.Store c.execute.new.self.conn.now) (agreement_of c.args.agreement.now) c.execute.result empty
    (rw (c.params-to_sql.ensures, c.params-to_sql-2.ensures, c.params-to_sql-3.ensures, c.params-to_sql-4.ensures, c.params-to_sql-5.ensures, c.params-to_sql-6.ensures) at (c.execute.ensures.runs clean empty.inside))
