use Rattle.std.proofs.Common.{sym, ◌∙◌}
use Rattle.storage_current.specs.Keys.{Keyed, keyed_by}
use Rattle.storage_db.specs.Opening.{ReadsAs, ReadsCommand}
use Rattle.storage_db.proofs.OpeningCalls.{rest_taken}
use Rattle.storage_db.proofs.db.replay.Replay.take.Goals as goal

pub returns : goal.returns
returns g c = λ before place on.
    let e : Keyed g.row.K.Denot g.row.V-Value.Denot
    = keyed_by g.K.Write.text g.V.Value.Write.text g.V.OperationCodec.operation_text g.K.Ord.cmp in
    let reads = ReadsCommand (ReadsAs (g.V.OperationCodec.operation_parse c.args.cfg.now) g.V.OperationCodec.operation_view)
    (λ k v n. record { key = k; value = v; next_key = n }) in
    let self = c.args.self.now in
    rest_taken e reads self.log self.active.present.entries self.last before on c.args.operation.now c.args.place place
    (λ same. c.if-place-len.false (same ∙ sym c.len.ensures.count)) c.has.result c.has.ensures
