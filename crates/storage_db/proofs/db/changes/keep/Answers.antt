use Rattle.std.proofs.Common.{Option, Some, sym, ap, ◌∙◌, subst}
use Rattle.std.specs.Prelude.{OnOk}
use Rattle.std.proofs.lemmas.Result.{on_err_weaker}
use Rattle.storage_current.specs.Keys.{Keyed, keyed_by}
use Rattle.storage_current.specs.Snapshots.{grafting_of}
use Rattle.storage_db.specs.Kept.{HeldCommit, with_keys}
use Rattle.storage_db.specs.Parts.{IsCommitOf, IsSince}
use Rattle.storage_db.proofs.Remembering.{with_all}
use Rattle.storage_db.proofs.db.changes.keep.Goals as goal

pub returns-in-Some-clause-ok : goal.returns-in-Some-clause-ok
returns-in-Some-clause-ok g c = λ before entries.
    let e : Keyed g.row.K.Denot g.row.V-Value.Denot
    = keyed_by g.K.Write.text g.V.Value.Write.text g.V.OperationCodec.operation_text g.K.Ord.cmp in
    subst (λ (o : Option (HeldCommit g.row.V-Value.Denot)). IsSince c.args.log.now (with_all before o)
    → OnOk c.extend.result (IsCommitOf e g.V.Value.Read.view g.H.Hasher.hash_of (grafting_of g.F.Family.shape g.row.N)
    c.args.log.now entries (with_all before o) c.args.metadata c.args.floor (with_keys c.extend.new.self entries)))
    (sym c.in-Some.is) (c.extend.ensures.ok before entries)

pub returns-in-Some-clause-err : goal.returns-in-Some-clause-err
returns-in-Some-clause-err g c =
    on_err_weaker c.extend.result (λ same. ap Some same ∙ sym c.in-Some.is) c.extend.ensures.err

pub returns-in_ok-first-in-None-clause-ok : goal.returns-in_ok-first-in-None-clause-ok
returns-in_ok-first-in-None-clause-ok g c = λ before entries since.
    let e : Keyed g.row.K.Denot g.row.V-Value.Denot
    = keyed_by g.K.Write.text g.V.Value.Write.text g.V.OperationCodec.operation_text g.K.Ord.cmp in
    subst (λ (o : Option (HeldCommit g.row.V-Value.Denot)). IsCommitOf e g.V.Value.Read.view g.H.Hasher.hash_of
    (grafting_of g.F.Family.shape g.row.N) c.args.log.now entries (with_all before o) c.args.metadata c.args.floor
    (with_keys c.in_ok-first-in-None.field-0 entries)) (sym c.in-None.is) (c.in_ok-first-in-None.ensures entries)
