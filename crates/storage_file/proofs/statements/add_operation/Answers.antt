use Rattle.std.proofs.Common.{◌≡◌, ℕ, pos, List, [], ◌∷◌, ◌++◌, length, Ok, Err, Result, OnOk, subst}
use Rattle.sqlite.specs.declared.types.Value.TheVariants.{Int, Blob}
use Rattle.std.specs.Int.{w64}
use Rattle.std.proofs.lemmas.Int.{to_z_pos}
use Rattle.sqlite.specs.declared.error.Error.{Error}
use Rattle.sqlite.specs.Held.{state}
use Rattle.sqlite.specs.State.{State, ExecutesInside}
use Rattle.storage_file.specs.Kept.{Kept}
use Rattle.storage_file.specs.Tables.{IsMade}
use Rattle.storage_file.proofs.Texts.{insert_operation}
use Rattle.storage_file.proofs.InsideLemmas.{statement_stays}
use Rattle.storage_file.proofs.AddLemmas.{adds_operation}
use Rattle.storage_file.proofs.statements.add_operation.Goals as goal

if_ok : (old new : State) (kept : Kept) (location : ℕ) (bytes : List ℕ) (r : Result ℕ Error) → IsMade old kept → location ≡ length kept.operations
    → ExecutesInside 0 insert_operation (Int (pos location) ∷ Blob bytes ∷ []) old new r → OnOk r (IsMade new (record kept { operations = kept.operations ++ bytes ∷ [] }))
if_ok old new kept location bytes (Ok count) made at h = adds_operation old new kept bytes count made (subst (λ n. ExecutesInside 0 insert_operation (Int (pos n) ∷ Blob bytes ∷ []) old new (Ok count)) at h)
if_ok old new kept location bytes (Err e) made at h = tt

pub returns-clause-inside : goal.returns-clause-inside
returns-clause-inside g c =
    statement_stays g.S.Store insert_operation _ c.args.tx.now.conn.now c.execute.new.self.conn.now c.execute.result c.execute.ensures.ended c.execute.ensures.runs c.execute.ensures.survives

pub returns-clause-added : goal.returns-clause-added
returns-clause-added g c clean kept made at =
    if_ok (state g.S.Store c.args.tx.now.conn.now) (state g.S.Store c.execute.new.self.conn.now) kept c.args.location c.args.bytes.now c.execute.result made at
    (rw (c.params-to_sql.ensures, c.params-to_sql-2.ensures, to_z_pos w64 c.args.location c.requires) at (c.execute.ensures.runs clean made.inside))
