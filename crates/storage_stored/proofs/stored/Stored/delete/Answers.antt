use borrow.Rule.Slice.AtParam.{field_room}
use denote.Param.{layout, copied, param, number}
use Rattle.storage_stored.specs.contracts.stored.Stored.{the_row}
use Rattle.std.proofs.Common.{ap, refl}
use Rattle.storage_current.specs.Keys.{Keyed, keyed_by}
use Rattle.storage_current.specs.Snapshots.{Grafting, grafting_of}
use Rattle.storage_db.specs.Databases.{Delete}
use Rattle.storage_stored.proofs.Commands.{done_inside, delete_last}
use Rattle.storage_stored.proofs.Refused.{change_refused, err_told}
use Rattle.storage_stored.proofs.Storing.{on_err}
use Rattle.storage_stored.proofs.stored.Stored.delete.Goals as goal

pub returns-then-self-clause-why : goal.returns-then-self-clause-why
returns-then-self-clause-why g c = rw c.if-self.true refl

pub returns-in_err-was-clause-err : goal.returns-in_err-was-clause-err
returns-in_err-was-clause-err g c = on_err c.from_residual.result (ap (λ database. record c.args.self.now { database = database }) c.in_err-was.ensures.err)

pub returns-in_err-was-clause-why : goal.returns-in_err-was-clause-why
returns-in_err-was-clause-why g c =
    let e : Keyed g.row.K.Denot g.row.V-Value.Denot = keyed_by g.K.Write.text g.V.Value.Write.text g.V.OperationCodec.operation_text g.K.Ord.cmp in
    let h = g.H.Hasher.hash_of in
    let gr : Grafting = grafting_of g.F.Family.shape g.row.N in
    err_told _ c.from_residual.result _ c.from_residual.ensures.1
    (change_refused e g.V.Value.Read.view h gr c.args.self.now.database _ c.args.self.now.tables.is_stopped (Delete c.args.key.now) c.if-self.false c.in_err-was.ensures.why)

pub returns-clause-ok : goal.returns-clause-ok
returns-clause-ok g c =
    let e : Keyed g.row.K.Denot g.row.V-Value.Denot = keyed_by g.K.Write.text g.V.Value.Write.text g.V.OperationCodec.operation_text g.K.Ord.cmp in
    let h = g.H.Hasher.hash_of in
    let gr : Grafting = grafting_of g.F.Family.shape g.row.N in
    done_inside e g.V.Value.Read.view h gr g.S.Store c.args.self.now.tables.journal c.args.self.now.database _ (Delete c.args.key.now) (λ d. delete_last e d c.args.key.now) c.in_ok-was.ensures.ok

pub returns-clause-answer : goal.returns-clause-answer
returns-clause-answer g c = c.in_ok-was.ensures.answer

pub returns-in_err-was-clause-active : goal.returns-in_err-was-clause-active
returns-in_err-was-clause-active g c = on_err c.from_residual.result (λ runs. c.in_err-was.ensures.active)

pub returns-then-self-clause-active : goal.returns-then-self-clause-active
returns-then-self-clause-active g c = λ runs. absurd (cc (c.if-self.true, runs))

pub delete-requires : goal.delete-requires
delete-requires g c =
    let stored = layout (the_row (copied 0 g.row.F) (param 1 g.row.H) (param 2 g.row.K) (param 3 g.row.V) (param 4 (number g.row.N))
    (param 5 g.row.S) (copied 6 g.row.H-Digest) (param 7 g.row.K-Cfg) (param 8 g.row.V-ReadCfg) (param 9 g.row.V-Value) (param 10 g.row.V-Value-Cfg)
    g.S.Store g.F.Graftable g.F.Family g.H.Hasher g.H.Digest.Digest g.H.Digest.PartialEq g.K.Key g.K.Write g.K.Read g.K.Clone g.K.Ord g.K.PartialEq g.K.PartialOrd g.K.Hash g.K.Debug g.V.Value.Write g.V.Value.Read g.V.Value.Clone
    g.V.KeyedEncoding) in
    field_room stored 2 _ _ refl c.requires-raw.1.1.1.1.1.1.1.1.1.1.1
