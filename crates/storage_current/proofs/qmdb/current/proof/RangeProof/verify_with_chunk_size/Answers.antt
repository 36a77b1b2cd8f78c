use Rattle.std.proofs.Common.{map, arith}
use Rattle.std.proofs.lemmas.Grind.{common_steps}
use Rattle.storage_current.specs.Held.{range_proof_of}
use Rattle.storage_current.specs.Laws.CurrentWire.{held_digests}
use Rattle.storage_current.proofs.Checks.{current_means}
use Rattle.storage_current.proofs.qmdb.current.proof.RangeProof.verify_with_chunk_size.Goals as goal

pub returns-in_default-clause-exact : goal.returns-in_default-clause-exact
returns-in_default-clause-exact g c = grind (arith, common_steps)

pub returns-clause-exact : goal.returns-clause-exact
returns-clause-exact g c = grind (arith, common_steps)

pub returns-clause-meaning : goal.returns-clause-meaning
returns-clause-meaning g c = λ wide.
    current_means c.current_proofs_are_sound.ensures g.D.Digest.size g.H.Hasher.hash_of wide g.met.H.Hasher.sized
    (record { shape = g.F.Family.shape; bytes = c.args.chunk_size }) g.met.F.Family.laws
    (range_proof_of g.D.Digest.text c.args.self.now) c.args.start (map g.O.Write.text c.args.operations.now)
    (map g.C.Chunk.text c.args.chunks.now)
    (held_digests g.D.Digest.text g.D.Digest.size g.met.D.Digest.sized c.args.self.now)
    (g.D.Digest.text c.args.root.now) c.verify_in.result (returns-clause-exact g c)
