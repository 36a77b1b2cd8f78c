use Rattle.std.proofs.Common.{arith, map, ◌≡◌, ◌+◌, ◌<◌, ◌∷◌, [], ◌++◌, add-zero, vec_len}
use Rattle.std.proofs.lemmas.List.{length-map, map-append, length-append}
use Rattle.storage_merkle.specs.Shape.{size}
use Rattle.storage_merkle.specs.Nodes.{IsNode}
use Rattle.storage_merkle.specs.Hashing.{node_over}
use Rattle.storage_merkle.proofs.MemNodes.{holds_old, holds_more, holds_at}
use Rattle.storage_merkle.proofs.merkle.mem.nodes.grow.Goals as goal

pub loop-offset-init : goal.loop-offset-init
loop-offset-init g c =
    let S = g.F.Family.shape in
    let L = g.met.F.Family.laws in
    let more = L.grows c.args.leaves in
    record {
      room = omega (arith, c.in_ok-reserve.ensures.ok);
      kept_room = omega (arith, c.reserve.ensures.capacity);
      count = rw c.reserve.ensures.items (omega (arith, c.requires.count));
      held = λ list dirty len h.
          rw (add-zero, c.reserve.ensures.items) (holds_old S L g.H.Hasher.hash_of (g.H.Hasher.layout c.args.hasher.now)
          (g.H.Hasher.chunk c.args.hasher.now) list _ c.args.leaves len dirty c.args.boundary _ _ c.requires.order h);
    }

pub loop-offset-preserved : goal.loop-offset-preserved
loop-offset-preserved g c =
    let S = g.F.Family.shape in
    let L = g.met.F.Family.laws in
    let f = g.H.Digest.Digest.text in
    let N = node_over g.H.Hasher.hash_of (g.H.Hasher.layout c.args.hasher.now) (g.H.Hasher.chunk c.args.hasher.now) in
    let leaf = g.H.Digest.Digest.text c.args.leaf in
    let n = c.args.leaves in
    let o = c.loop-offset.offset in
    let more = L.grows n in
    let items : c.push.new.self.items ≡ c.loop-offset.nodes.items ++ c.digest_of_new_node-digest.result ∷ [] =
    rw c.unwrap.ensures at c.push.ensures.items in
    let len' : vec_len c.push.new.self ≡ vec_len c.loop-offset.nodes + 1 = rw c.unwrap.ensures at c.push.ensures.len in
    let within : size S n + o < size S (n + 1) =
    omega (arith, c.nodes_over.ensures, c.nodes_over-2.ensures, c.loop-offset-test.true) in
    let w = L.brings n o within in
    let i : IsNode S (size S n + o) w.0 w.1 = record { aligned = w.2; at = w.3 } in
    let next : size S n + o + 1 ≡ size S n + (o + 1) = omega arith in
    record {
      room = omega (arith, c.loop-offset.invariant.room, c.push.ensures.capacity, c.loop-offset-test.true);
      kept_room = omega (arith, c.loop-offset.invariant.kept_room, c.push.ensures.capacity);
      count = rw (items, length-append) (omega (arith, c.loop-offset.invariant.count));
      held = λ list dirty len h.
          let before = c.loop-offset.invariant.held list dirty len h in
          let more = holds_more S L (N (list ++ leaf ∷ [])) dirty c.args.boundary (size S n + o) w.0 w.1
          (map f c.args.pinned.now) (map f c.loop-offset.nodes.items) (f c.digest_of_new_node-digest.result) before
          (rw length-map c.loop-offset.invariant.count) i
          (c.digest_of_new_node-digest.ensures list dirty len (rw c.deref.ensures.value before) w.0 w.1 i) in
          rw (items, map-append, ← next) more;
    }

pub digest_of_new_node-digest-requires-clause-takes : goal.digest_of_new_node-digest-requires-clause-takes
digest_of_new_node-digest-requires-clause-takes g c a k inner =
    let S = g.F.Family.shape in
    let within : size S c.args.leaves + c.loop-offset.offset < size S (c.args.leaves + 1) =
    omega (arith, c.nodes_over.ensures, c.nodes_over-2.ensures, c.loop-offset-test.true) in
    c.requires.takes (size S c.args.leaves + c.loop-offset.offset) a k inner (omega arith) within

pub returns-clause-grown : goal.returns-clause-grown
returns-clause-grown g c list dirty len h =
    let S = g.F.Family.shape in
    let L = g.met.F.Family.laws in
    let more = L.grows c.args.leaves in
    holds_at S L
    (node_over g.H.Hasher.hash_of (g.H.Hasher.layout c.args.hasher.now) (g.H.Hasher.chunk c.args.hasher.now)
    (list ++ g.H.Digest.Digest.text c.args.leaf ∷ [])) dirty c.args.boundary
    (size S c.args.leaves + c.loop-offset.offset) (size S (c.args.leaves + 1)) _ _
    (omega (arith, c.nodes_over.ensures, c.nodes_over-2.ensures))
    (c.loop-offset.invariant.held list dirty len h)
