use Rattle.std.proofs.Common.{ap, sym}
use Rattle.storage_current.specs.HeldKeys.{exclusion_of}
use Rattle.storage_current.proofs.KeyAnswers.{excluded_exactly, excluded_meaning}
use Rattle.storage_current.proofs.qmdb.current.ordered.exclusion.ExclusionProof.verify.Goals as goal

pub returns-in-KeyValue-clause-exact : goal.returns-in-KeyValue-clause-exact
returns-in-KeyValue-clause-exact g c =
    excluded_exactly g.H.Hasher.hash_of g.F.Family.shape (record {
      key = g.K.Write.text;
      value = g.V.Value.Write.text;
      operation = g.V.OperationCodec.operation_text;
      cmp = g.K.Ord.cmp;
    })
    c.args.key.now (g.D.Digest.text c.args.root.now) c.verify_span.result _ _
    (ap (λ x. exclusion_of g.D.Digest.text g.C.Chunk.text x) (sym c.in-KeyValue.is)) c.verify_span.ensures.exact

pub returns-in-KeyValue-clause-meaning : goal.returns-in-KeyValue-clause-meaning
returns-in-KeyValue-clause-meaning g c = λ wide.
    excluded_meaning g.H.Hasher.hash_of g.F.Family.shape (record {
      key = g.K.Write.text;
      value = g.V.Value.Write.text;
      operation = g.V.OperationCodec.operation_text;
      cmp = g.K.Ord.cmp;
    })
    c.args.key.now (g.D.Digest.text c.args.root.now) c.verify_span.result _ _ (ap
    (λ x. exclusion_of g.D.Digest.text g.C.Chunk.text x) (sym c.in-KeyValue.is)) (c.verify_span.ensures.meaning wide)

pub returns-in-Commit-clause-meaning : goal.returns-in-Commit-clause-meaning
returns-in-Commit-clause-meaning g c = λ wide.
    excluded_meaning g.H.Hasher.hash_of g.F.Family.shape (record {
      key = g.K.Write.text;
      value = g.V.Value.Write.text;
      operation = g.V.OperationCodec.operation_text;
      cmp = g.K.Ord.cmp;
    })
    c.args.key.now (g.D.Digest.text c.args.root.now) c.verify_commit.result _ _ (ap
    (λ x. exclusion_of g.D.Digest.text g.C.Chunk.text x) (sym c.in-Commit.is)) (c.verify_commit.ensures.meaning wide)
