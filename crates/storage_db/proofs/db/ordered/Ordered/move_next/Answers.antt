use Rattle.std.proofs.Common.{refl, arith}
use Rattle.storage_current.specs.Keys.{Keyed, keyed_by}
use Rattle.storage_current.specs.Snapshots.{grafting_of}
use Rattle.storage_db.specs.Opening.{ReadsAs, ReadsCommand}
use Rattle.storage_db.proofs.Cases.{err_and}
use Rattle.storage_db.proofs.Compacting.{left_there}
use Rattle.storage_db.proofs.db.ordered.Ordered.move_next.Goals as goal

pub returns-then-location-end-clause-ok : goal.returns-then-location-end-clause-ok
returns-then-location-end-clause-ok g c = λ low. (refl, omega (arith, c.if-location-end.true, c.oldest-location.ensures low))

pub returns-in_err-move_oldest-clause-err : goal.returns-in_err-move_oldest-clause-err
returns-in_err-move_oldest-clause-err g c = λ low.
    let e : Keyed g.row.K.Denot g.row.V-Value.Denot
    = keyed_by g.K.Write.text g.V.Value.Write.text g.V.OperationCodec.operation_text g.K.Ord.cmp in
    let reads = ReadsCommand (ReadsAs (g.V.OperationCodec.operation_parse c.args.cfg.now) g.V.OperationCodec.operation_view)
    (λ k v n. record { key = k; value = v; next_key = n }) in
    err_and _ _ c.from_residual.result (λ error same.
    left_there e g.V.Value.Read.view g.H.Hasher.hash_of (grafting_of g.F.Family.shape g.row.N) reads c.args.self.now c.move_oldest.new.self
    c.oldest-location.result c.args.end (c.oldest-location.ensures low) c.if-location-end.false c.in_err-move_oldest.ensures.err error _ same
    (c.in_err-move_oldest.ensures.why (c.oldest-location.ensures low))) c.from_residual.ensures.1

pub returns-clause-ok : goal.returns-clause-ok
returns-clause-ok g c = λ low. (c.in_ok-move_oldest.ensures.ok (c.oldest-location.ensures low), c.if-location-end.false)
