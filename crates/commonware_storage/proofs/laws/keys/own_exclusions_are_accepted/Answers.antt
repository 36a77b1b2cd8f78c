use Rattle.commonware_storage.proofs.OwnKeys.{own_exclusions}
use Rattle.commonware_storage.proofs.laws.keys.own_exclusions_are_accepted.Goals as goal

pub returns : goal.returns
returns g c = λ update cfg.
    own_exclusions c.own_operation_proofs_are_accepted.ensures c.own_operation_proofs_are_read_again.ensures
    (record {
      key = g.K.Write.text;
      value = g.V.Value.Write.text;
      operation = g.V.OperationCodec.operation_text;
      cmp = g.K.Ord.cmp;
    })
    g.K.Read.view (g.K.Read.parse (g.V.UpdateCodec.key_cfg update)) (g.K.Read.admits (g.V.UpdateCodec.key_cfg update))
    (g.met.K.Codec.again (g.V.UpdateCodec.key_cfg update))
    g.V.Value.Read.view (g.V.Value.Read.parse (g.V.UpdateCodec.value_cfg update)) (g.V.Value.Read.parse cfg)
    (g.V.Value.Read.admits (g.V.UpdateCodec.value_cfg update)) (g.V.Value.Read.admits cfg)
    (g.met.V.Value.Codec.again (g.V.UpdateCodec.value_cfg update)) (g.met.V.Value.Codec.again cfg)
