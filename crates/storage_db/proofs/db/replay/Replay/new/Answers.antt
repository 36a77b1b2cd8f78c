use Rattle.storage_current.specs.Keys.{Keyed, keyed_by}
use Rattle.storage_db.specs.Opening.{ReadsAs, ReadsCommand}
use Rattle.storage_db.proofs.OpeningCalls.{none_followed}
use Rattle.storage_db.proofs.db.replay.Replay.new.Goals as goal

pub returns : goal.returns
returns g c = λ cfg.
    let e : Keyed g.row.K.Denot g.row.V-Value.Denot
    = keyed_by g.K.Write.text g.V.Value.Write.text g.V.OperationCodec.operation_text g.K.Ord.cmp in
    none_followed e (ReadsCommand (ReadsAs (g.V.OperationCodec.operation_parse cfg) g.V.OperationCodec.operation_view)
    (λ k v n. record { key = k; value = v; next_key = n })) c.new.result c.new-2.result.present.entries c.new.ensures.operations
    c.new.ensures.bits c.new.ensures.cleared c.new-2.ensures.present
