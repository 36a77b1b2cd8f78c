use Rattle.std.proofs.Common.{◌≡◌, ◌∙◌, ap, sym, refl, arith, ◌%◌, ◌*◌, false, true}
use Rattle.storage_bitmap.proofs.Standing.{count_of}
use Rattle.storage_bitmap.proofs.Rehashing.{tree_rooted, aligned_root, partial_rooted}
use Rattle.storage_bitmap.proofs.bitmap.authenticated.rehashed.root_of_bits.Goals as goal

pub returns-then-is_multiple_of : goal.returns-then-is_multiple_of
returns-then-is_multiple_of g c plain list rest s =
    let whole : c.len-length.result % (8 * g.row.N) ≡ 0 = c.if-is_multiple_of.ensures.0 refl in
    tree_rooted g.D.Digest.text g.H.Hasher.hash_of (g.H.Hasher.layout c.args.hasher.now)
    (g.H.Hasher.chunk c.args.hasher.now)
    (g.H.Hasher.bagging c.args.hasher.now) g.row.N c.args.bits.now c.args.tree.now
    (g.D.Digest.text c.unwrap-root.result) plain
    (rw c.unwrap-root.ensures at c.root.ensures.root) c.requires.whole list rest s
    ∙ aligned_root g.H.Hasher.hash_of (g.H.Hasher.bagging c.args.hasher.now) g.row.N list (ap (λ m. m % (8 * g.row.N))
    (sym (c.len-length.ensures.value ∙ count_of g.row.N c.args.bits.now list rest)) ∙ whole)

pub returns : goal.returns
returns g c plain list rest s =
    let root = tree_rooted g.D.Digest.text g.H.Hasher.hash_of (g.H.Hasher.layout c.args.hasher.now)
    (g.H.Hasher.chunk c.args.hasher.now)
    (g.H.Hasher.bagging c.args.hasher.now) g.row.N c.args.bits.now c.args.tree.now
    (g.D.Digest.text c.unwrap-root.result) plain
    (rw c.unwrap-root.ensures at c.root.ensures.root) c.requires.whole list rest s in
    partial_rooted g.H.Hasher.hash_of (g.H.Hasher.bagging c.args.hasher.now) g.row.N c.args.bits.now list
    (g.D.Digest.text c.partial_root.result) (g.D.Digest.text c.unwrap-root.result)
    (g.D.Digest.text c.digest-last.result) c.get_chunk.result c.len-length.result
    c.partial_root.ensures c.digest-last.ensures c.len-length.ensures.value c.get_chunk.ensures
    (λ z. let e : false ≡ true = c.if-is_multiple_of.ensures.1 z in
    absurd (cc)) (omega (arith, c.requires.order, c.requires.whole)) rest root
