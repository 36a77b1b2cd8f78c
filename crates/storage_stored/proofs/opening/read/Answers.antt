use Rattle.std.proofs.Common.{inr, map, refl, sym, ap, ◌∙◌}
use Rattle.storage_current.specs.Keys.{Keyed, keyed_by}
use Rattle.storage_current.specs.Snapshots.{Grafting, grafting_of}
use Rattle.storage_db.specs.Databases.{empty, run}
use Rattle.storage_file.specs.Given.{commit_of}
use Rattle.storage_stored.proofs.Opened.{is_not, read_opened, read_other, read_refused}
use Rattle.storage_stored.proofs.Refused.{err_told}
use Rattle.storage_stored.proofs.opening.read.Goals as goal

pub returns-in_err-database-clause-refused : goal.returns-in_err-database-clause-refused
returns-in_err-database-clause-refused g c =
    let e : Keyed g.row.K.Denot g.row.V-Value.Denot = keyed_by g.K.Write.text g.V.Value.Write.text g.V.OperationCodec.operation_text g.K.Ord.cmp in
    let h = g.H.Hasher.hash_of in
    let gr : Grafting = grafting_of g.F.Family.shape g.row.N in
    err_told _ c.from_residual.result _ c.from_residual.ensures.1 (λ lists are. read_refused e _ h gr _ _ lists c.in_err-database.ensures.why are.operations)

pub returns-then-not-is_stored-clause-refused : goal.returns-then-not-is_stored-clause-refused
returns-then-not-is_stored-clause-refused g c =
    let e : Keyed g.row.K.Denot g.row.V-Value.Denot = keyed_by g.K.Write.text g.V.Value.Write.text g.V.OperationCodec.operation_text g.K.Ord.cmp in
    let h = g.H.Hasher.hash_of in
    let gr : Grafting = grafting_of g.F.Family.shape g.row.N in
    λ lists are.
    let opened = c.in_ok-database.ensures.ok in
    let tells = c.is_stored.ensures (run e empty opened.commands) opened.keeps opened.log.committed lists (sym are.operations ∙ sym opened.log.leave) (ap (map commit_of) c.deref.ensures.value ∙ are.commits) in
    inr (refl, read_other e g.V.Value.Read.view h gr _ _ _ lists c.is_stored.result opened are.operations tells (is_not _ c.if-not-is_stored.true))

pub returns-clause-opened : goal.returns-clause-opened
returns-clause-opened g c =
    let e : Keyed g.row.K.Denot g.row.V-Value.Denot = keyed_by g.K.Write.text g.V.Value.Write.text g.V.OperationCodec.operation_text g.K.Ord.cmp in
    let h = g.H.Hasher.hash_of in
    let gr : Grafting = grafting_of g.F.Family.shape g.row.N in
    λ lists are.
    let opened = c.in_ok-database.ensures.ok in
    let tells = c.is_stored.ensures (run e empty opened.commands) opened.keeps opened.log.committed lists (sym are.operations ∙ sym opened.log.leave) (ap (map commit_of) c.deref.ensures.value ∙ are.commits) in
    read_opened e g.V.Value.Read.view h gr _ _ _ lists c.is_stored.result opened are.operations tells c.if-not-is_stored.false
