use Rattle.std.specs.Bool.{IsTrue}
use Rattle.std.specs.Result.{IfOk}
use Rattle.std.proofs.Common.{◌∙◌, ◌++◌, ℕ, List, length, ap, subst, rules}
use Rattle.storage_current.specs.CurrentSoundness.{MeansActive}
use Rattle.storage_current.specs.Held.{operation_proof_of}
use Rattle.storage_current.proofs.qmdb.current.proof.operation.Proof.verify.Goals as goal

pub returns-clause-meaning : goal.returns-clause-meaning
returns-clause-meaning g c = λ wide.
    subst (λ (operation : List ℕ). IfOk c.verify_encoded.result (λ yes. IsTrue yes → MeansActive g.H.Hasher.hash_of
    (record { shape = g.F.Family.shape; bytes = length (g.C.Chunk.text c.args.self.now.chunk) })
    (operation_proof_of g.D.Digest.text g.C.Chunk.text c.args.self.now) operation (g.D.Digest.text c.args.root.now)))
    (c.deref.ensures.value ∙ (c.in_ok-write.ensures.ok ∙ ap (λ (t : List ℕ). t
    ++ g.O.Write.text c.args.operation) c.new-bytes.ensures.items)) (c.verify_encoded.ensures.meaning wide)

pub returns-clause-exact : goal.returns-clause-exact
returns-clause-exact g c = search rules
