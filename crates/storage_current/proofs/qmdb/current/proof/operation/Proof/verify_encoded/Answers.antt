use Rattle.std.proofs.Common.{length, ap, [], ◌∷◌}
use Rattle.storage_current.specs.Laws.CurrentWire.{held_digests}
use Rattle.storage_current.specs.Held.{operation_proof_of, range_proof_of}
use Rattle.storage_current.specs.Snapshots.{Grafting}
use Rattle.storage_current.proofs.Checks.{active_exact, active_means}
use Rattle.storage_current.proofs.Windows.{current_window}
use Rattle.storage_current.proofs.qmdb.current.proof.operation.Proof.verify_encoded.Goals as goal

pub returns-in_default-of_height-clause-exact : goal.returns-in_default-of_height-clause-exact
returns-in_default-of_height-clause-exact g c =
    let S : Grafting = record { shape = g.F.Family.shape; bytes = length (g.C.Chunk.text c.args.self.now.chunk) } in
    let none = rw (c.as_u64-leaves.ensures, c.as_u64.ensures) at
    (c.in_default-of_height.ensures S.bytes c.in-Some.ensures.bit.0 c.in-Some.ensures.power.0) in (
      λ yes. absurd cc,
      λ active. absurd (none (current_window g.H.Hasher.hash_of S (range_proof_of g.D.Digest.text c.args.self.now.range_proof)
          c.args.self.now.loc (c.args.operation.now ∷ []) (g.C.Chunk.text c.args.self.now.chunk ∷ [])
          (g.D.Digest.text c.args.root.now) active.current)),
    )

pub verify_in-requires : goal.verify_in-requires
verify_in-requires g c =
    let n = length (g.C.Chunk.text c.args.self.now.chunk) in (
      n,
      rw (c.as_u64-leaves.ensures, c.as_u64.ensures) at
          (c.in-Some-of_height.ensures n c.in-Some.ensures.bit.0 c.in-Some.ensures.power.0),
    )

pub returns-clause-exact : goal.returns-clause-exact
returns-clause-exact g c =
    let S : Grafting = record { shape = g.F.Family.shape; bytes = length (g.C.Chunk.text c.args.self.now.chunk) } in
    active_exact g.H.Hasher.hash_of S (operation_proof_of g.D.Digest.text g.C.Chunk.text c.args.self.now) c.args.operation.now
    (g.D.Digest.text c.args.root.now) c.verify_in.result c.in-Some.ensures.bit.1
    (rw c.bytes.ensures at (c.verify_in.ensures S.bytes (rw (c.as_u64-leaves.ensures, c.as_u64.ensures) at
    (c.in-Some-of_height.ensures S.bytes c.in-Some.ensures.bit.0 c.in-Some.ensures.power.0))
    (ap length c.bytes.ensures, tt)))

pub returns-clause-meaning : goal.returns-clause-meaning
returns-clause-meaning g c = λ wide.
    let S : Grafting = record { shape = g.F.Family.shape; bytes = length (g.C.Chunk.text c.args.self.now.chunk) } in
    active_means c.operation_proofs_are_sound.ensures g.D.Digest.size g.H.Hasher.hash_of wide g.met.H.Hasher.sized S
    g.met.F.Family.laws
    (operation_proof_of g.D.Digest.text g.C.Chunk.text c.args.self.now) c.args.operation.now
    (held_digests g.D.Digest.text g.D.Digest.size g.met.D.Digest.sized c.args.self.now.range_proof)
    (g.D.Digest.text c.args.root.now) c.verify_in.result (returns-clause-exact g c)
