use Rattle.std.proofs.Common.{ℕ, List, ◌++◌, length}
use Rattle.storage_ops.specs.declared.qmdb.any.operation.update.ordered.Update.{Update as Ordered}
use Rattle.storage_current.specs.Held.{operation_proof_of}
use Rattle.storage_current.specs.KeyProofs.{KeyValue}
use Rattle.storage_current.proofs.KeyAnswers.{means_absent, update_same}
use Rattle.storage_current.proofs.qmdb.current.ordered.check.verify_span.Goals as goal

abbrev update_bytes : {K V W A B : Type 0} → (K → List ℕ) → (W → List ℕ) → Ordered K V A W B → List ℕ
update_bytes key value u = key u.key ++ value u.value ++ key u.next_key

pub returns-clause-meaning : goal.returns-clause-meaning
returns-clause-meaning g c = λ wide.
    let p = operation_proof_of g.D.Digest.text g.C.Chunk.text c.args.proof.now in
    let u = c.args.update.now in
    let text = update_bytes g.K.Write.text g.V.Value.Write.text in
    means_absent g.H.Hasher.hash_of (record { shape = g.F.Family.shape; bytes = length p.chunk })
    (g.D.Digest.text c.args.root.now) c.verify.result
    (record {
      key = g.K.Write.text;
      value = g.V.Value.Write.text;
      operation = g.V.OperationCodec.operation_text;
      cmp = g.K.Ord.cmp;
    })
    (KeyValue p (u.key, u.value, u.next_key)) c.args.key.now _
    (update_same g.V.OperationCodec.operation_text (text c.in_ok-copy.copy) (text u) c.in_ok-copy.ensures.text)
    (λ s snapshot well active. c.spanned_key_is_absent.ensures s well p.location u.key u.value u.next_key active
    c.args.key.now (c.excludes.ensures.0 c.if-not-excludes.false))
    (c.verify.ensures.meaning wide)
