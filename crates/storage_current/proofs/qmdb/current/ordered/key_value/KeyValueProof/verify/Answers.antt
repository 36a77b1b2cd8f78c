use Rattle.std.proofs.Common.{length}
use Rattle.storage_current.specs.Held.{operation_proof_of}
use Rattle.storage_current.proofs.KeyAnswers.{same_exactly, means_value, next_same}
use Rattle.storage_current.proofs.qmdb.current.ordered.key_value.KeyValueProof.verify.Goals as goal

pub returns-clause-exact : goal.returns-clause-exact
returns-clause-exact g c =
    let p = operation_proof_of g.D.Digest.text g.C.Chunk.text c.args.self.now.proof in
    let key = g.K.Write.text in
    let same = next_same g.V.OperationCodec.operation_text (key c.args.key) (g.V.Value.Write.text c.args.value)
    (key c.in_ok-next_key.next_key) (key c.args.self.now.next_key) c.in_ok-next_key.ensures.text in
    same_exactly g.H.Hasher.hash_of (record { shape = g.F.Family.shape; bytes = length p.chunk }) p
    (g.D.Digest.text c.args.root.now) c.verify.result _ _ same c.verify.ensures.exact

pub returns-clause-meaning : goal.returns-clause-meaning
returns-clause-meaning g c = λ wide.
    let p = operation_proof_of g.D.Digest.text g.C.Chunk.text c.args.self.now.proof in
    let key = g.K.Write.text in
    let same = next_same g.V.OperationCodec.operation_text (key c.args.key) (g.V.Value.Write.text c.args.value)
    (key c.in_ok-next_key.next_key) (key c.args.self.now.next_key) c.in_ok-next_key.ensures.text in
    means_value g.H.Hasher.hash_of (record { shape = g.F.Family.shape; bytes = length p.chunk }) p
    (g.D.Digest.text c.args.root.now) c.verify.result
    (record {
      key = g.K.Write.text;
      value = g.V.Value.Write.text;
      operation = g.V.OperationCodec.operation_text;
      cmp = g.K.Ord.cmp;
    })
    c.args.key c.args.value c.args.self.now.next_key _ same c.active_update_is_value.ensures
    (c.verify.ensures.meaning wide)
