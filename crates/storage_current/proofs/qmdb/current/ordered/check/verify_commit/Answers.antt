use Rattle.std.proofs.Common.{length}
use Rattle.storage_current.specs.Held.{operation_proof_of}
use Rattle.storage_current.specs.KeyProofs.{Commit}
use Rattle.storage_current.proofs.KeyAnswers.{means_absent, commit_same}
use Rattle.storage_current.proofs.qmdb.current.ordered.check.verify_commit.Goals as goal

pub returns-clause-meaning : goal.returns-clause-meaning
returns-clause-meaning g c = λ wide.
    let p = operation_proof_of g.D.Digest.text g.C.Chunk.text c.args.proof.now in
    means_absent g.H.Hasher.hash_of (record { shape = g.F.Family.shape; bytes = length p.chunk })
    (g.D.Digest.text c.args.root.now) c.verify.result
    (record {
      key = g.K.Write.text;
      value = g.V.Value.Write.text;
      operation = g.V.OperationCodec.operation_text;
      cmp = g.K.Ord.cmp;
    })
    (Commit p c.args.value.now) c.args.key.now _
    (commit_same g.V.OperationCodec.operation_text p.location _ _ c.in_ok-copy.ensures.text)
    (λ s snapshot well active.
    c.commit_at_floor_is_empty.ensures s snapshot well p.location c.args.value.now active c.args.key.now)
    (c.verify.ensures.meaning wide)
