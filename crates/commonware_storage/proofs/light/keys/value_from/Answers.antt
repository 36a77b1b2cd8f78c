use Rattle.std.proofs.Common.{ℕ, List}
use Rattle.storage_current.specs.Held.{operation_proof_of}
use Rattle.commonware_storage.proofs.KeyAnswers.{value_exactly, value_meaning}
use Rattle.commonware_storage.proofs.light.keys.value_from.Goals as goal

pub returns-in-Ok-clause-exact : goal.returns-in-Ok-clause-exact
returns-in-Ok-clause-exact g c =
    value_exactly (record {
      key = g.K.Write.text;
      value = g.V.Value.Write.text;
      operation = g.V.OperationCodec.operation_text;
      cmp = g.K.Ord.cmp;
    }) g.K.Read.view
    (g.K.Read.parse c.args.cfg.now) g.met.K.Key.prefix_free.seen
    g.H.Hasher.hash_of g.F.Family.shape c.args.chunk_size g.F.Graftable.has_pending g.H.Digest.Digest.size
    (g.B.Buf.unread c.args.buf) c.args.key c.args.value (g.H.Digest.Digest.text c.args.root.now)
    (operation_proof_of g.H.Digest.Digest.text (λ (b : List ℕ). b) c.in-Ok.proof.proof) c.in-Ok.proof.next_key c.in-Ok.ensures
    c.verify.result c.verify.ensures.exact

pub returns-in-Ok-clause-meaning : goal.returns-in-Ok-clause-meaning
returns-in-Ok-clause-meaning g c = λ wide.
    value_meaning (record {
      key = g.K.Write.text;
      value = g.V.Value.Write.text;
      operation = g.V.OperationCodec.operation_text;
      cmp = g.K.Ord.cmp;
    }) g.K.Read.view
    (g.K.Read.parse c.args.cfg.now) g.met.K.Key.prefix_free.seen
    g.H.Hasher.hash_of g.F.Family.shape c.args.chunk_size g.F.Graftable.has_pending g.H.Digest.Digest.size
    (g.B.Buf.unread c.args.buf) c.args.key c.args.value (g.H.Digest.Digest.text c.args.root.now)
    (operation_proof_of g.H.Digest.Digest.text (λ (b : List ℕ). b) c.in-Ok.proof.proof) c.in-Ok.proof.next_key c.in-Ok.ensures
    c.verify.result (c.verify.ensures.meaning wide)
