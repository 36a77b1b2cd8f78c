use Rattle.storage_bitmap.proofs.Standing.{merkleized}
use Rattle.std.proofs.Common.{arith}
use Rattle.std.proofs.lemmas.Grind.{common_steps}
use Rattle.storage_bitmap.proofs.bitmap.authenticated.unmerkleized.BitMap+D+N+Unmerkleized.merkleize.Goals as goal

pub returns-clause-stands : goal.returns-clause-stands
returns-clause-stands g c plain bits s =
    merkleized g.D.Digest.text g.H.Hasher.hash_of
    (g.H.Hasher.bagging c.args.hasher.now) g.row.N c.self.inside.bits c.self.inside.tree c.rehash.new.tree
    c.add_chunks.new.tree c.self.inside.state _ c.root_of_bits-root.result c.self.inside.state.dirty.keys bits
    (c.in_default.ensures.stands plain bits) c.in_default.ensures.place.0
    (c.in_default-add_chunks.ensures.stands plain bits) c.in_default-add_chunks.ensures.place.0
    (c.root_of_bits-root.ensures plain bits) (rw (← c.self.view_is) at s)

pub rehash-requires : goal.rehash-requires
rehash-requires g c = grind (arith, common_steps)

pub add_chunks-requires : goal.add_chunks-requires
add_chunks-requires g c = grind (arith, common_steps)
