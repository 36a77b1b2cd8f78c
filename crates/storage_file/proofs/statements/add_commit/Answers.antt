use Rattle.std.proofs.Common.{◌≡◌, ℕ, pos, List, [], ◌∷◌, ◌++◌, length, Ok, Err, Result, OnOk, subst}
use Rattle.sqlite.specs.declared.types.Value.TheVariants.{Int}
use Rattle.std.specs.Int.{w64}
use Rattle.std.proofs.lemmas.Int.{to_z_pos}
use Rattle.sqlite.specs.declared.error.Error.{Error}
use Rattle.sqlite.specs.Held.{state}
use Rattle.sqlite.specs.State.{State, ExecutesInside}
use Rattle.storage_file.specs.Kept.{Kept, Commit}
use Rattle.storage_file.specs.Given.{commit_of}
use Rattle.storage_file.specs.Tables.{IsMade, IsReady, commit_cells}
use Rattle.storage_file.proofs.Texts.{insert_commit}
use Rattle.storage_file.proofs.InsideLemmas.{statement_stays}
use Rattle.storage_file.proofs.AddLemmas.{adds_commit}
use Rattle.storage_file.proofs.statements.add_commit.Goals as goal

if_ok : (old new : State) (kept : Kept) (number : ℕ) (commit : Commit) (r : Result ℕ Error) → IsMade old kept → number ≡ length kept.commits
    → ExecutesInside 0 insert_commit (Int (pos number) ∷ commit_cells commit) old new r → OnOk r (IsReady new (record kept { commits = kept.commits ++ commit ∷ [] }))
if_ok old new kept number commit (Ok count) made at h = adds_commit old new kept commit count made (subst (λ n. ExecutesInside 0 insert_commit (Int (pos n) ∷ commit_cells commit) old new (Ok count)) at h)
if_ok old new kept number commit (Err e) made at h = tt

pub returns-clause-inside : goal.returns-clause-inside
returns-clause-inside g c =
    statement_stays g.S.Store insert_commit _ c.args.tx.now.conn.now c.execute.new.self.conn.now c.execute.result c.execute.ensures.ended c.execute.ensures.runs c.execute.ensures.survives

pub returns-clause-added : goal.returns-clause-added
returns-clause-added g c clean kept made at =
    if_ok (state g.S.Store c.args.tx.now.conn.now) (state g.S.Store c.execute.new.self.conn.now) kept c.args.number (commit_of c.args.commit.now) c.execute.result made at
    (rw (c.params-to_sql.ensures, c.params-to_sql-2.ensures, c.params-to_sql-3.ensures, c.params-to_sql-4.ensures, to_z_pos w64 c.args.number c.requires.number, to_z_pos w64 c.args.commit.now.location c.requires.location, to_z_pos w64 c.args.commit.now.floor c.requires.floor) at (c.execute.ensures.runs clean made.inside))
