use Rattle.std.specs.Result.{IfOk}
use Rattle.std.specs.Bool.{IsTrue}
use Rattle.std.proofs.lemmas.List.{map-id}
use Rattle.std.proofs.Common.{◌↔◌, List, ℕ, map, subst}
use Rattle.storage_current.specs.CurrentProofs.{IsCurrent}
use Rattle.storage_current.specs.CurrentSoundness.{MeansCurrent}
use Rattle.storage_current.specs.Held.{range_proof_of}
use Rattle.storage_current.proofs.qmdb.current.proof.RangeProof.verify.Goals as goal

pub returns-clause-exact : goal.returns-clause-exact
returns-clause-exact g c =
    subst (λ (chunks : List (List ℕ)).
    IfOk c.verify_with_chunk_size.result (λ yes. IsTrue yes ↔ IsCurrent g.H.Hasher.hash_of
    (record { shape = g.F.Family.shape; bytes = g.row.N }) (range_proof_of g.D.Digest.text c.args.self.now) c.args.start
    (map g.O.Write.text c.args.operations.now) chunks (g.D.Digest.text c.args.root.now)))
    (map-id c.args.chunks.now) c.verify_with_chunk_size.ensures.exact

pub returns-clause-meaning : goal.returns-clause-meaning
returns-clause-meaning g c = λ wide.
    subst (λ (chunks : List (List ℕ)).
    IfOk c.verify_with_chunk_size.result (λ yes. IsTrue yes → MeansCurrent g.H.Hasher.hash_of
    (record { shape = g.F.Family.shape; bytes = g.row.N }) (range_proof_of g.D.Digest.text c.args.self.now) c.args.start
    (map g.O.Write.text c.args.operations.now) chunks (g.D.Digest.text c.args.root.now)))
    (map-id c.args.chunks.now) (c.verify_with_chunk_size.ensures.meaning wide)

pub returns-clause-at_once : goal.returns-clause-at_once
returns-clause-at_once g c = c.verify_with_chunk_size.ensures.at_once
