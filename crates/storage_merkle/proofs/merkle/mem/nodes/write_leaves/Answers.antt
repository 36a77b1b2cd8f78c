use Rattle.std.proofs.Common.{arith, ◌≤◌, ◌<◌, map, refl}
use Rattle.storage_merkle.proofs.Rewriting.{halfway_next, halfway_end, all_head, all_tail, places_head, places_tail}
use Rattle.storage_merkle.proofs.merkle.mem.nodes.write_leaves.Goals as goal

pub loop-update-init : goal.loop-update-init
loop-update-init g c = record {
  there = c.requires.there;
  among = λ j m. m;
  held = λ list dirty len h. record { now = list; len = len; same = refl; holds = h };
}

pub write_leaf-requires-clause-kept : goal.write_leaf-requires-clause-kept
write_leaf-requires-clause-kept g c =
    let h = all_head (λ u. (c.args.boundary ≤ u.0) × (u.0 < c.args.leaves)) c.loop-update.left.now c.in-Some.rest.now
    c.in-Some.update.now c.in-Some.ensures.cases.0 c.loop-update.invariant.there in
    omega (arith, h.0, c.as_u64-place.ensures)

pub write_leaf-requires-clause-within : goal.write_leaf-requires-clause-within
write_leaf-requires-clause-within g c =
    let h = all_head (λ u. (c.args.boundary ≤ u.0) × (u.0 < c.args.leaves)) c.loop-update.left.now c.in-Some.rest.now
    c.in-Some.update.now c.in-Some.ensures.cases.0 c.loop-update.invariant.there in
    omega (arith, h.1, c.as_u64-place.ensures)

pub write_leaf-requires-clause-takes : goal.write_leaf-requires-clause-takes
write_leaf-requires-clause-takes g c p a k leaf inner within among low high =
    c.requires.takes p a k leaf inner within (c.loop-update.invariant.among leaf
    (places_head c.loop-update.left.now c.in-Some.rest.now c.in-Some.update.now c.in-Some.ensures.cases.0 leaf
    (rw c.as_u64-place.ensures at among))) low high

pub loop-update-smaller : goal.loop-update-smaller
loop-update-smaller g c = omega (arith, c.in-Some.ensures.cases.1)

pub loop-update-preserved : goal.loop-update-preserved
loop-update-preserved g c =
    let f = g.H.Digest.Digest.text in
    let P = map f c.args.pinned.now in
    let h = all_head (λ u. (c.args.boundary ≤ u.0) × (u.0 < c.args.leaves)) c.loop-update.left.now c.in-Some.rest.now
    c.in-Some.update.now c.in-Some.ensures.cases.0 c.loop-update.invariant.there in
    record {
      there = all_tail (λ u. (c.args.boundary ≤ u.0) × (u.0 < c.args.leaves)) c.loop-update.left.now c.in-Some.rest.now
          c.in-Some.update.now c.in-Some.ensures.cases.0 c.loop-update.invariant.there;
      among = λ j m. c.loop-update.invariant.among j
          (places_tail c.loop-update.left.now c.in-Some.rest.now c.in-Some.update.now c.in-Some.ensures.cases.0 j m);
      held = λ list dirty len e. halfway_next g.F.Family.shape g.met.F.Family.laws g.H.Hasher.hash_of
          (g.H.Hasher.layout c.args.hasher.now) (g.H.Hasher.chunk c.args.hasher.now) f list c.args.updates.now
          c.loop-update.left.now c.in-Some.rest.now c.in-Some.update.now dirty c.args.boundary c.args.leaves
          c.as_u64-place.result P (map f c.loop-update.nodes) (map f c.write_leaf.new.nodes) c.first_place-next.result
          c.in-Some.ensures.cases.0 c.as_u64-place.ensures (omega (arith, h.0, c.as_u64-place.ensures))
          (omega (arith, h.1, c.as_u64-place.ensures)) c.first_place-next.ensures.next c.write_leaf.ensures
          (c.loop-update.invariant.held list dirty len e);
    }

pub returns : goal.returns
returns g c list dirty len h =
    let f = g.H.Digest.Digest.text in
    halfway_end g.F.Family.shape g.met.F.Family.laws g.H.Hasher.hash_of (g.H.Hasher.layout c.args.hasher.now)
    (g.H.Hasher.chunk c.args.hasher.now) f list c.args.updates.now c.loop-update.left.now dirty c.args.boundary
    c.args.leaves (map f c.args.pinned.now) (map f c.loop-update.nodes) c.in_default.ensures.cases
    (c.loop-update.invariant.held list dirty len h)
