use Rattle.std.proofs.Common.{◌≡◌, ◌^◌, ◌∙◌, arith, inl, inr, map, refl, true}
use Rattle.storage_merkle.specs.Extracted.{extracted, by_bytes}
use Rattle.storage_merkle.specs.Laws.Shape.{size_order}
use Rattle.storage_merkle.specs.declared.merkle.bagging.Bagging.TheVariants.{BackwardFold}
use Rattle.storage_current.specs.Held.{range_proof_of}
use Rattle.storage_current.specs.Snapshots.{Grafting}
use Rattle.storage_current.proofs.Checks.{seen_lengths, unmatched, unfit, decided, to_claim}
use Rattle.storage_current.proofs.Extracting.{equal, unequal}
use Rattle.storage_current.proofs.qmdb.current.proof.extract.extract_in.Goals as goal

pub returns-then-not-match_chunks : goal.returns-then-not-match_chunks
returns-then-not-match_chunks g c = λ n of sized.
    let P = range_proof_of g.H.Digest.Digest.text c.args.proof.now in
    let S : Grafting = record { shape = g.F.Family.shape; bytes = n } in
    let seen = seen_lengths g.E.AsSlice.items g.C.Chunk.text c.args.operations.now c.args.chunks.now S
    c.args.proof.now.proof.leaves c.args.start c.args.window.now of in
    inr (inl (
      refl,
      λ computes. let no = unmatched g.H.Hasher.hash_of S P c.args.start (map g.E.AsSlice.items c.args.operations.now)
          (map g.C.Chunk.text c.args.chunks.now) c.args.window.now seen c.match_chunks.result c.match_chunks.ensures.1
          c.if-not-match_chunks.true computes.1 in cc,
    ))

pub recompute_digests-requires : goal.recompute_digests-requires
recompute_digests-requires g c = λ p few below.
    let order = size_order g.F.Family.shape g.met.F.Family.laws c.args.proof.now.proof.leaves (2 ^ 62) few in
    omega (arith, order)

pub returns-in_default : goal.returns-in_default
returns-in_default g c = λ n of sized.
    let P = range_proof_of g.H.Digest.Digest.text c.args.proof.now in
    let S : Grafting = record { shape = g.F.Family.shape; bytes = n } in
    let v = c.new-verifier.result in
    let e = c.new-verifier.ensures in
    let seen = seen_lengths g.E.AsSlice.items g.C.Chunk.text c.args.operations.now c.args.chunks.now S
    c.args.proof.now.proof.leaves c.args.start c.args.window.now of in
    inr (inl (
      refl,
      λ computes. let no = unfit g.H.Hasher.hash_of S P c.args.start (map g.E.AsSlice.items c.args.operations.now)
          (map g.C.Chunk.text c.args.chunks.now) c.args.window.now seen
          v.height v.start_chunk_index v.graftable_chunks (map (λ b. b.now) v.chunks.items) e.height e.start e.graftable
          (e.chunks ∙ c.in_ok-lent.ensures)
          (rw c.in_default.is at c.in_ok-computed.ensures.root) computes.1 in cc,
    ))

pub returns-then-ne : goal.returns-then-ne
returns-then-ne g c = λ n of sized.
    let text = g.H.Digest.Digest.text in
    let P = range_proof_of text c.args.proof.now in
    let S : Grafting = record { shape = g.F.Family.shape; bytes = n } in
    let v = c.new-verifier.result in
    let e = c.new-verifier.ensures in
    let seen = seen_lengths g.E.AsSlice.items g.C.Chunk.text c.args.operations.now c.args.chunks.now S
    c.args.proof.now.proof.leaves c.args.start c.args.window.now of in
    let says = decided g.H.Hasher.hash_of S P c.args.start (map g.E.AsSlice.items c.args.operations.now)
    (map g.C.Chunk.text c.args.chunks.now) c.args.window.now seen
    v.height v.start_chunk_index v.graftable_chunks (map (λ b. b.now) v.chunks.items) e.height e.start e.graftable
    (e.chunks ∙ c.in_ok-lent.ensures)
    (text c.in-Some.computed.0) (rw c.in-Some.is at c.in_ok-computed.ensures.root) sized
    (c.match_chunks.ensures.0 c.if-not-match_chunks.false) (text c.canonical.result) in
    inr (inr (
      refl,
      (
        text c.canonical.result,
        (says (text c.canonical.result) c.canonical.ensures true (λ _. refl, λ _. refl)).0 refl,
      ),
      λ current. unequal _ c.if-ne.ensures
          ((says (text c.args.root.now) c.canonical.ensures (g.H.Digest.PartialEq.eq c.canonical.result c.args.root.now)
          (g.met.H.Digest.Digest.same c.canonical.result c.args.root.now)).1 current),
    ))

pub returns : goal.returns
returns g c = λ n of sized.
    let text = g.H.Digest.Digest.text in
    let P = range_proof_of text c.args.proof.now in
    let S : Grafting = record { shape = g.F.Family.shape; bytes = n } in
    let v = c.new-verifier.result in
    let e = c.new-verifier.ensures in
    let seen = seen_lengths g.E.AsSlice.items g.C.Chunk.text c.args.operations.now c.args.chunks.now S
    c.args.proof.now.proof.leaves c.args.start c.args.window.now of in
    let says = decided g.H.Hasher.hash_of S P c.args.start (map g.E.AsSlice.items c.args.operations.now)
    (map g.C.Chunk.text c.args.chunks.now) c.args.window.now seen
    v.height v.start_chunk_index v.graftable_chunks (map (λ b. b.now) v.chunks.items) e.height e.start e.graftable
    (e.chunks ∙ c.in_ok-lent.ensures)
    (text c.in-Some.computed.0) (rw c.in-Some.is at c.in_ok-computed.ensures.root) sized
    (c.match_chunks.ensures.0 c.if-not-match_chunks.false) (text c.canonical.result) in (
      (says (text c.args.root.now) c.canonical.ensures (g.H.Digest.PartialEq.eq c.canonical.result c.args.root.now)
          (g.met.H.Digest.Digest.same c.canonical.result c.args.root.now)).0 (equal _ c.if-ne.ensures),
      to_claim g.H.Hasher.hash_of S P c.args.start (map g.E.AsSlice.items c.args.operations.now)
          (map g.C.Chunk.text c.args.chunks.now) c.args.window.now seen
          v.height v.start_chunk_index v.graftable_chunks (map (λ b. b.now) v.chunks.items) e.height e.start e.graftable
          (e.chunks ∙ c.in_ok-lent.ensures)
          (λ T claim. by_bytes text c.in-Some.computed.1.items
          ≡ extracted g.H.Hasher.hash_of T BackwardFold P.range c.args.start claim)
          (rw c.in-Some.is at c.in_ok-computed.ensures.digests),
    )
