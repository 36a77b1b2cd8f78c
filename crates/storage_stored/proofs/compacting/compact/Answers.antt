use Rattle.std.proofs.Common.{refl}
use Rattle.storage_current.specs.Keys.{Keyed, keyed_by}
use Rattle.storage_current.specs.Snapshots.{Grafting, grafting_of}
use Rattle.storage_stored.proofs.Compacted.{compacted, compact_refused}
use Rattle.storage_stored.proofs.Refused.{err_told}
use Rattle.storage_stored.proofs.compacting.compact.Goals as goal

pub returns-then-tables-clause-why : goal.returns-then-tables-clause-why
returns-then-tables-clause-why g c = rw c.if-tables.true (refl, refl)

pub returns-in_err-moved-clause-why : goal.returns-in_err-moved-clause-why
returns-in_err-moved-clause-why g c =
    let e : Keyed g.row.K.Denot g.row.V-Value.Denot = keyed_by g.K.Write.text g.V.Value.Write.text g.V.OperationCodec.operation_text g.K.Ord.cmp in
    let h = g.H.Hasher.hash_of in
    let gr : Grafting = grafting_of g.F.Family.shape g.row.N in
    err_told _ c.from_residual.result _ c.from_residual.ensures.1
    (compact_refused e g.V.Value.Read.view h gr g.S.Store c.args.tables.now.journal _ _ c.args.database.now c.args.count _ c.args.tables.now.is_stopped c.if-tables.false c.in_err-moved.ensures.err)

pub returns-clause-ok : goal.returns-clause-ok
returns-clause-ok g c =
    let e : Keyed g.row.K.Denot g.row.V-Value.Denot = keyed_by g.K.Write.text g.V.Value.Write.text g.V.OperationCodec.operation_text g.K.Ord.cmp in
    let h = g.H.Hasher.hash_of in
    let gr : Grafting = grafting_of g.F.Family.shape g.row.N in
    λ d keeps. compacted e g.V.Value.Read.view h gr g.S.Store c.args.tables.now.journal _ d c.args.count _ (c.in_ok-moved.ensures.ok d keeps)
