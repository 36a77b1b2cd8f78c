use Rattle.std.proofs.Common.{ℕ, List}
use Rattle.storage_ops.specs.Updates.{ordered_at}
use Rattle.storage_current.specs.HeldKeys.{exclusion_of}
use Rattle.commonware_storage.proofs.KeyAnswers.{absence_exactly, absence_meaning, tied_of}
use Rattle.commonware_storage.proofs.light.keys.absence_from.Goals as goal

pub returns-in-Ok-clause-exact : goal.returns-in-Ok-clause-exact
returns-in-Ok-clause-exact g c =
    absence_exactly (record {
      key = g.K.Write.text;
      value = g.V.Value.Write.text;
      operation = g.V.OperationCodec.operation_text;
      cmp = g.K.Ord.cmp;
    }) g.K.Read.view g.V.Value.Read.view
    (record {
      key = g.met.K.Key.prefix_free.seen;
      value = g.met.V.ValueEncoding.prefix_free.seen;
      total = g.met.K.Ord.total;
      tied = tied_of g.K.Ord.cmp g.K.PartialEq.eq g.K.Write.text g.met.K.Ord.matches_eq g.met.K.Key.same;
    })
    (ordered_at (g.K.Read.parse (g.V.UpdateCodec.key_cfg c.args.cfgs.now.0))
    (g.V.Value.Read.parse (g.V.UpdateCodec.value_cfg c.args.cfgs.now.0))) (g.V.Value.Read.parse c.args.cfgs.now.1)
    g.H.Hasher.hash_of g.F.Family.shape c.args.chunk_size g.F.Graftable.has_pending g.H.Digest.Digest.size
    (g.B.Buf.unread c.args.buf) c.args.key.now (g.H.Digest.Digest.text c.args.root.now)
    (exclusion_of g.H.Digest.Digest.text (λ (b : List ℕ). b) c.in-Ok.proof) c.in-Ok.ensures c.verify.result
    c.verify.ensures.exact

pub returns-in-Ok-clause-meaning : goal.returns-in-Ok-clause-meaning
returns-in-Ok-clause-meaning g c = λ wide.
    absence_meaning (record {
      key = g.K.Write.text;
      value = g.V.Value.Write.text;
      operation = g.V.OperationCodec.operation_text;
      cmp = g.K.Ord.cmp;
    }) g.K.Read.view g.V.Value.Read.view
    (record {
      key = g.met.K.Key.prefix_free.seen;
      value = g.met.V.ValueEncoding.prefix_free.seen;
      total = g.met.K.Ord.total;
      tied = tied_of g.K.Ord.cmp g.K.PartialEq.eq g.K.Write.text g.met.K.Ord.matches_eq g.met.K.Key.same;
    })
    (ordered_at (g.K.Read.parse (g.V.UpdateCodec.key_cfg c.args.cfgs.now.0))
    (g.V.Value.Read.parse (g.V.UpdateCodec.value_cfg c.args.cfgs.now.0))) (g.V.Value.Read.parse c.args.cfgs.now.1)
    g.H.Hasher.hash_of g.F.Family.shape c.args.chunk_size g.F.Graftable.has_pending g.H.Digest.Digest.size
    (g.B.Buf.unread c.args.buf) c.args.key.now (g.H.Digest.Digest.text c.args.root.now)
    (exclusion_of g.H.Digest.Digest.text (λ (b : List ℕ). b) c.in-Ok.proof) c.in-Ok.ensures c.verify.result
    (c.verify.ensures.meaning wide)
