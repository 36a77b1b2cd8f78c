use Rattle.commonware_storage.proofs.OwnKeys.{own_values}
use Rattle.commonware_storage.proofs.laws.keys.own_values_are_accepted.Goals as goal

pub returns : goal.returns
returns g c = λ cfg.
    own_values c.own_operation_proofs_are_accepted.ensures c.own_operation_proofs_are_read_again.ensures
    (record {
      key = g.K.Write.text;
      value = g.V.Value.Write.text;
      operation = g.V.OperationCodec.operation_text;
      cmp = g.K.Ord.cmp;
    })
    g.K.Read.view (g.K.Read.parse cfg) (g.K.Read.admits cfg) (g.met.K.Codec.again cfg)
