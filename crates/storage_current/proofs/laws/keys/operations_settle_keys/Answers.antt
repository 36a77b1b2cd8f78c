use Rattle.std.proofs.Common.{◌++◌, refl}
use Rattle.storage_current.proofs.Keys.{keyed_of}
use Rattle.storage_current.proofs.laws.keys.operations_settle_keys.Goals as goal

pub returns : goal.returns
returns g c = keyed_of g.K.Write.text g.V.Value.Write.text g.V.OperationCodec.operation_text g.K.Ord.cmp
    g.K.Read.view g.V.Value.Read.view
    (λ u. g.K.Write.text u.key ++ g.V.Value.Write.text u.value ++ g.K.Write.text u.next_key)
    (λ k v n. record { key = k; value = v; next_key = n }) (λ k v n. refl)
    g.met.V.OperationCodec.operation_parts g.met.K.Key.prefix_free g.met.V.ValueEncoding.prefix_free g.met.K.Ord.total
    g.K.PartialEq.eq g.met.K.Ord.matches_eq g.met.K.Key.same
