use Rattle.std.proofs.Common.{◌*◌, ◌<◌, map, sym, arith, subst, rules}
use Rattle.std.proofs.lemmas.Nat.{le-div}
use Rattle.storage_bitmap.specs.BitProofs.{IsBitAccepted}
use Rattle.storage_bitmap.proofs.Bits.{chunk_positive}
use Rattle.storage_bitmap.proofs.BitProving.{own_bit}
use Rattle.storage_bitmap.proofs.Standing.{count_of}
use Rattle.storage_bitmap.proofs.bitmap.authenticated.proof.BitMap+D+N+Merkleized+D.proof.Goals as goal

pub returns-clause-within : goal.returns-clause-within
returns-clause-within g c =
    rw (← c.self.view_is) (subst (λ n. c.args.bit < n) c.len-length.ensures.value (omega (arith, c.if-bit-length.false)))

pub returns-clause-own : goal.returns-clause-own
returns-clause-own g c plain bits s =
    let some = chunk_positive g.row.N c.self.invariant.size in
    let t = rw (← c.self.view_is) at s in
    let low = rw (← c.self.view_is) at c.requires in
    own_bit g.H.Hasher.hash_of (g.H.Hasher.bagging c.args.hasher.now) g.row.N c.args.bit c.new.result
    c.len-length.result c.self.inside.bits bits (map g.D.Digest.text c.in_ok-digests.digests.items) c.get_chunk.result
    t.stands.rest c.new.ensures c.len-length.ensures.value (omega (arith, c.if-bit-length.false))
    (le-div c.self.inside.bits.pruned c.args.bit (8 * g.row.N) (omega arith) low)
    (c.in_ok-digests.ensures plain bits t.stands.rest t.stands.digests) c.get_chunk.ensures

pub returns-clause-accepted : goal.returns-clause-accepted
returns-clause-accepted g c plain bits s =
    let some = chunk_positive g.row.N c.self.invariant.size in
    let t = rw (← c.self.view_is) at s in
    let low = rw (← c.self.view_is) at c.requires in
    let own = own_bit g.H.Hasher.hash_of (g.H.Hasher.bagging c.args.hasher.now) g.row.N c.args.bit c.new.result
    c.len-length.result c.self.inside.bits bits (map g.D.Digest.text c.in_ok-digests.digests.items) c.get_chunk.result
    t.stands.rest c.new.ensures c.len-length.ensures.value (omega (arith, c.if-bit-length.false))
    (le-div c.self.inside.bits.pruned c.args.bit (8 * g.row.N) (omega arith) low)
    (c.in_ok-digests.ensures plain bits t.stands.rest t.stands.digests) c.get_chunk.ensures in
    subst (IsBitAccepted g.H.Hasher.hash_of (g.H.Hasher.bagging c.args.hasher.now) g.row.N
    (record { leaves = c.new.result; inactive = 0; digests = map g.D.Digest.text c.in_ok-digests.digests.items })
    c.get_chunk.result c.args.bit) (sym s.root_is)
    (c.own_bit_proofs_are_accepted.ensures g.H.Hasher.hash_of (g.H.Hasher.bagging c.args.hasher.now) g.row.N some
    (record { leaves = c.new.result; inactive = 0; digests = map g.D.Digest.text c.in_ok-digests.digests.items })
    c.get_chunk.result c.args.bit bits
    (omega (arith, c.self.invariant.few, count_of g.row.N c.self.inside.bits bits t.stands.rest)) own)

pub bit_digests-requires : goal.bit_digests-requires
bit_digests-requires g c = search rules

pub returns-in_err-digests-clause-why : goal.returns-in_err-digests-clause-why
returns-in_err-digests-clause-why g c = search rules

pub get_chunk-requires : goal.get_chunk-requires
get_chunk-requires g c = search rules
