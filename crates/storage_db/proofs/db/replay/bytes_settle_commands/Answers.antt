use Rattle.std.proofs.Common.{refl}
use Rattle.storage_current.specs.Keys.{Keyed, keyed_by}
use Rattle.storage_db.proofs.OpeningReads.{reads_alike}
use Rattle.storage_db.proofs.db.replay.bytes_settle_commands.Goals as goal

pub returns : goal.returns
returns g c = λ cfg.
    let e : Keyed g.row.K.Denot g.row.V-Value.Denot
    = keyed_by g.K.Write.text g.V.Value.Write.text g.V.OperationCodec.operation_text g.K.Ord.cmp in
    reads_alike e (g.V.OperationCodec.operation_parse cfg) g.V.OperationCodec.operation_view g.K.Read.view g.V.Value.Read.view
    (λ u. (g.K.Read.view u.key, g.V.Value.Read.view u.value, g.K.Read.view u.next_key))
    (λ k v n. record { key = k; value = v; next_key = n }) (λ k v n. refl) g.met.V.OperationCodec.operation_same
    g.met.K.Key.prefix_free g.met.V.ValueEncoding.prefix_free
