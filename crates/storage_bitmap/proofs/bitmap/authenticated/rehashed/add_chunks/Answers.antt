use Rattle.std.proofs.Common.{◌≡◌, ◌∙◌, ap, sym, arith, subst, ◌/◌, ◌*◌, ◌+◌, ◌-◌, ◌≤◌, ◌++◌, ◌∷◌, [], refl, ◌<◌}
use Rattle.storage_merkle.specs.Calc.{be8}
use Rattle.storage_merkle.specs.Hashing.{node_over}
use Rattle.storage_merkle.specs.Kept.{StandsBut}
use Rattle.storage_merkle.specs.Mmr.{mmr}
use Rattle.storage_merkle.specs.Laws.Mmr.{mmr_laws}
use Rattle.storage_merkle.specs.Shape.{size}
use Rattle.storage_merkle.specs.Laws.Shape.{grows_at_most}
use Rattle.storage_bitmap.specs.Chunks.{bit_count, chunk}
use Rattle.storage_bitmap.proofs.Rehashing.{added, chunks_fit}
use Rattle.storage_bitmap.proofs.bitmap.authenticated.rehashed.add_chunks.Goals as goal

pub loop-index-init : goal.loop-index-init
loop-index-init g c = record {
  place = omega (arith, c.as_u64-index.ensures, c.leaves.ensures);
  order = omega (arith, c.as_u64-index.ensures, c.leaves.ensures, c.requires.order);
  within = omega (arith, c.as_u64-index.ensures, c.leaves.ensures, c.requires.leaves);
  boundary = refl;
  stands = λ plain list rest s. s;
}

pub add-requires : goal.add-requires
add-requires g c few p a k inner low high =
    let more : c.loop-index.index < c.len.result / (8 * g.row.N) = c.loop-index-test.true in
    let e : c.len.result / (8 * g.row.N) ≡ bit_count g.row.N c.args.bits.now / (8 * g.row.N) =
    ap (λ m. m / (8 * g.row.N)) c.len.ensures.value in
    let up : size mmr (c.loop-index.tree.leaves + 1) ≤ size mmr (bit_count g.row.N c.args.bits.now / (8 * g.row.N)) =
    grows_at_most (size mmr) mmr_laws.grows (c.loop-index.tree.leaves + 1)
    (bit_count g.row.N c.args.bits.now / (8 * g.row.N)) (omega (arith, c.loop-index.invariant.place, more, e)) in
    c.requires.takes p (chunks_fit g.row.N (bit_count g.row.N c.args.bits.now) c.requires.few) (omega arith)

pub loop-index-preserved : goal.loop-index-preserved
loop-index-preserved g c =
    let i = c.loop-index.invariant in
    let m = c.in_default.ensures in
    let more : c.loop-index.index < c.len.result / (8 * g.row.N) = c.loop-index-test.true in
    let e : c.len.result / (8 * g.row.N) ≡ bit_count g.row.N c.args.bits.now / (8 * g.row.N) =
    ap (λ m. m / (8 * g.row.N)) c.len.ensures.value in
    let bytes : c.get_chunk.result
    ≡ chunk g.row.N c.args.bits.now.bits (c.loop-index.tree.leaves - c.args.bits.now.pruned) =
    c.get_chunk.ensures ∙ ap (λ k. chunk g.row.N c.args.bits.now.bits (k - c.args.bits.now.pruned)) (sym i.place) in
    record {
      place = omega (arith, i.place, m.place.0);
      order = omega (arith, i.order);
      within = omega (arith, more, e);
      boundary = m.place.1 ∙ i.boundary;
      stands = λ plain list rest s.
          added g.D.Digest.text g.H.Hasher.hash_of (g.H.Hasher.layout c.args.hasher.now)
          (g.H.Hasher.chunk c.args.hasher.now) g.row.N c.args.bits.now c.loop-index.tree c.add.new.self plain
          (λ xs dirty t. subst (λ x. StandsBut g.D.Digest.text mmr (node_over g.H.Hasher.hash_of
          (g.H.Hasher.layout c.args.hasher.now) (g.H.Hasher.chunk c.args.hasher.now)) dirty c.add.new.self (xs
          ++ g.H.Hasher.hash_of (be8 (size mmr c.loop-index.tree.leaves) ++ x) ∷ [])) bytes (m.grown xs dirty t))
          (omega (arith, i.order, i.place)) m.place.0 list rest (i.stands plain list rest s);
    }

pub returns-clause-place : goal.returns-clause-place
returns-clause-place g c =
    let e : c.len.result / (8 * g.row.N) ≡ bit_count g.row.N c.args.bits.now / (8 * g.row.N) =
    ap (λ m. m / (8 * g.row.N)) c.len.ensures.value in (
      omega (arith, c.loop-index.invariant.place, c.loop-index.invariant.within, e, c.loop-index-test.false),
      c.loop-index.invariant.boundary,
    )

pub returns-clause-stands : goal.returns-clause-stands
returns-clause-stands g c = c.loop-index.invariant.stands
