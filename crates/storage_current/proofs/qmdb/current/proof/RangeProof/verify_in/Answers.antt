use Rattle.std.proofs.Common.{◌^◌, ◌∙◌, arith, map}
use Rattle.storage_merkle.specs.Laws.Shape.{size_order}
use Rattle.storage_current.specs.Held.{range_proof_of}
use Rattle.storage_current.specs.Snapshots.{Grafting}
use Rattle.storage_current.proofs.Checks.{seen_lengths, unmatched, unfit, decided}
use Rattle.storage_current.proofs.qmdb.current.proof.RangeProof.verify_in.Goals as goal

pub returns-then-not-match_chunks : goal.returns-then-not-match_chunks
returns-then-not-match_chunks g c = λ n of sized.
    let P = range_proof_of g.D.Digest.text c.args.self.now in
    let S : Grafting = record { shape = g.F.Family.shape; bytes = n } in
    let seen = seen_lengths g.E.AsSlice.items g.C.Chunk.text c.args.operations.now c.args.chunks.now S
    c.args.self.now.proof.leaves c.args.start c.args.window.now of in (
      λ yes. absurd cc,
      λ current. unmatched g.H.Hasher.hash_of S P c.args.start (map g.E.AsSlice.items c.args.operations.now)
          (map g.C.Chunk.text c.args.chunks.now) c.args.window.now seen c.match_chunks.result c.match_chunks.ensures.1
          c.if-not-match_chunks.true current,
    )

pub recompute_root-requires : goal.recompute_root-requires
recompute_root-requires g c = λ p few below.
    let order = size_order g.F.Family.shape g.met.F.Family.laws c.args.self.now.proof.leaves (2 ^ 62) few in
    omega (arith, order)

pub returns-in_default : goal.returns-in_default
returns-in_default g c = λ n of sized.
    let P = range_proof_of g.D.Digest.text c.args.self.now in
    let S : Grafting = record { shape = g.F.Family.shape; bytes = n } in
    let v = c.new-verifier.result in
    let e = c.new-verifier.ensures in
    let seen = seen_lengths g.E.AsSlice.items g.C.Chunk.text c.args.operations.now c.args.chunks.now S
    c.args.self.now.proof.leaves c.args.start c.args.window.now of in (
      λ yes. absurd cc,
      λ current. unfit g.H.Hasher.hash_of S P c.args.start (map g.E.AsSlice.items c.args.operations.now)
          (map g.C.Chunk.text c.args.chunks.now) c.args.window.now seen
          v.height v.start_chunk_index v.graftable_chunks (map (λ b. b.now) v.chunks.items) e.height e.start e.graftable
          (e.chunks ∙ c.in_ok-lent.ensures)
          (rw c.in_default.is at c.in_ok-computed.ensures) current,
    )

pub returns : goal.returns
returns g c = λ n of sized.
    let P = range_proof_of g.D.Digest.text c.args.self.now in
    let S : Grafting = record { shape = g.F.Family.shape; bytes = n } in
    let v = c.new-verifier.result in
    let e = c.new-verifier.ensures in
    let seen = seen_lengths g.E.AsSlice.items g.C.Chunk.text c.args.operations.now c.args.chunks.now S
    c.args.self.now.proof.leaves c.args.start c.args.window.now of in
    decided g.H.Hasher.hash_of S P c.args.start (map g.E.AsSlice.items c.args.operations.now)
    (map g.C.Chunk.text c.args.chunks.now) c.args.window.now seen
    v.height v.start_chunk_index v.graftable_chunks (map (λ b. b.now) v.chunks.items) e.height e.start e.graftable
    (e.chunks ∙ c.in_ok-lent.ensures)
    (g.D.Digest.text c.in-Some.grafted_root) (rw c.in-Some.is at c.in_ok-computed.ensures) sized
    (c.match_chunks.ensures.0 c.if-not-match_chunks.false)
    (g.D.Digest.text c.canonical.result) (g.D.Digest.text c.args.root.now) c.canonical.ensures c.eq.result
    (rw c.eq.ensures (g.met.D.Digest.same c.canonical.result c.args.root.now))
