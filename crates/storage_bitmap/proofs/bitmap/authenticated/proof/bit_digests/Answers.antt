use Rattle.std.proofs.Common.{◌≡◌, ◌*◌, ◌/◌, ◌∙◌, ◌∷◌, ◌++◌, [], ap, arith}
use Rattle.storage_bitmap.specs.Chunks.{bit_count}
use Rattle.storage_bitmap.proofs.BitChecks.{not_both}
use Rattle.storage_bitmap.proofs.BitProving.{partial_own, aligned_own, broken_own}
use Rattle.storage_bitmap.proofs.Rehashing.{tree_rooted}
use Rattle.storage_bitmap.proofs.bitmap.authenticated.proof.bit_digests.Goals as goal

pub returns-then-place-complete : goal.returns-then-place-complete
returns-then-place-complete g c plain list rest s =
    partial_own g.H.Hasher.hash_of (g.H.Hasher.bagging c.args.hasher.now) g.row.N c.args.place c.len-length.result
    c.args.bits.now list rest c.len-length.ensures.value
    g.D.Digest.text c.unwrap-root.result c.push.new.self.items c.if-place-complete.true (c.in_ok-push.ensures.items
    ∙ ap (λ xs. xs ++ c.unwrap-root.result ∷ []) c.new-digests.ensures.items)
    (tree_rooted g.D.Digest.text g.H.Hasher.hash_of (g.H.Hasher.layout c.args.hasher.now)
    (g.H.Hasher.chunk c.args.hasher.now)
    (g.H.Hasher.bagging c.args.hasher.now) g.row.N c.args.bits.now c.args.tree.now
    (g.D.Digest.text c.unwrap-root.result) plain
    (rw c.unwrap-root.ensures at c.root.ensures.root) c.requires.whole list rest s)

pub returns-then-is_multiple_of : goal.returns-then-is_multiple_of
returns-then-is_multiple_of g c plain list rest s =
    aligned_own g.H.Hasher.hash_of (g.H.Hasher.bagging c.args.hasher.now) g.row.N c.args.place c.len-length.result
    c.args.bits.now list rest c.len-length.ensures.value
    g.D.Digest.text c.args.tree.now c.requires.whole s c.new.result c.new-2.result c.in-Ok.proof.leaves
    c.in-Ok.proof.inactive_peaks c.new.ensures c.new-2.ensures c.in-Ok.proof.digests.items c.in-Ok.ensures.own
    c.if-place-complete.false (c.is_multiple_of.ensures.0 c.if-is_multiple_of.true)

pub returns : goal.returns
returns g c plain list rest s =
    broken_own g.H.Hasher.hash_of (g.H.Hasher.bagging c.args.hasher.now) g.row.N c.args.place c.len-length.result
    c.args.bits.now list rest c.len-length.ensures.value
    g.D.Digest.text c.args.tree.now c.requires.whole s c.new.result c.new-2.result c.in-Ok.proof.leaves
    c.in-Ok.proof.inactive_peaks c.new.ensures c.new-2.ensures c.in-Ok.proof.digests.items c.in-Ok.ensures.own
    c.if-place-complete.false
    c.digest.result c.push-2.new.self.items c.get_chunk-last.result c.in_ok-push-2.ensures.items c.digest.ensures
    c.get_chunk-last.ensures
    (let at : c.len-length.result / (8 * g.row.N) ≡ bit_count g.row.N c.args.bits.now / (8 * g.row.N) =
    ap (λ m. m / (8 * g.row.N)) c.len-length.ensures.value in omega (arith, at, c.requires.order, c.requires.whole))
    (λ z. not_both c.is_multiple_of.result (c.is_multiple_of.ensures.1 z) c.if-is_multiple_of.false)
