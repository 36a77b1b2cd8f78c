use Rattle.std.proofs.Common.{map, rules, arith}
use Rattle.std.proofs.lemmas.Grind.{common_steps}
use Rattle.storage_current.specs.Held.{range_proof_of}
use Rattle.storage_current.specs.Laws.CurrentWire.{held_digests}
use Rattle.storage_current.proofs.Checks.{current_means}
use Rattle.storage_current.proofs.qmdb.current.proof.RangeProof.verify_encoded.Goals as goal

pub returns-in-Some-clause-exact : goal.returns-in-Some-clause-exact
returns-in-Some-clause-exact g c = search rules

pub returns-in-Some-clause-meaning : goal.returns-in-Some-clause-meaning
returns-in-Some-clause-meaning g c = λ wide.
    current_means c.current_proofs_are_sound.ensures g.D.Digest.size g.H.Hasher.hash_of wide g.met.H.Hasher.sized
    (record { shape = g.F.Family.shape; bytes = c.args.chunk_size }) g.met.F.Family.laws
    (range_proof_of g.D.Digest.text c.args.self.now) c.args.start (map g.E.AsSlice.items c.args.operations.now)
    (map g.C.Chunk.text c.args.chunks.now)
    (held_digests g.D.Digest.text g.D.Digest.size g.met.D.Digest.sized c.args.self.now)
    (g.D.Digest.text c.args.root.now) c.verify_in.result (returns-in-Some-clause-exact g c)

pub returns-in-None-clause-exact : goal.returns-in-None-clause-exact
returns-in-None-clause-exact g c = grind (arith, common_steps)

pub returns-in-None-clause-at_once : goal.returns-in-None-clause-at_once
returns-in-None-clause-at_once g c = search rules
