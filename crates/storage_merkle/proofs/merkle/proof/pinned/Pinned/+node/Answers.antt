use Rattle.std.proofs.Common.{arith, rules, sym, map, []}
use Rattle.storage_merkle.proofs.Walks.{in_tree_leaves, in_tree_left, in_tree_right, halves}
use Rattle.storage_merkle.proofs.Pinned.Nodes.{node_pinned, node_empty, node_joined}
use Rattle.storage_merkle.proofs.merkle.proof.pinned.Pinned.+node.Goals as goal

pub returns-in-Some : goal.returns-in-Some
returns-in-Some g t c =
    let same = g.met.H.Hasher.over c.args.hasher.now in
    node_pinned g.H.Hasher.hash_of (g.H.Hasher.layout c.args.hasher.now) g.F.Family.shape same c.args.self.now.start
    (map g.D.Digest.text c.args.self.now.digests.now) (g.H.Hasher.chunk c.args.hasher.now) c.args.height c.args.first
    _ c.in-Some.ensures.0 (c.in-Some.ensures.1 (g.H.Hasher.hash_of []))

pub returns-then-height-eq0 : goal.returns-then-height-eq0
returns-then-height-eq0 g t c =
    let same = g.met.H.Hasher.over c.args.hasher.now in
    node_empty g.H.Hasher.hash_of (g.H.Hasher.layout c.args.hasher.now) g.F.Family.shape same c.args.self.now.start
    (map g.D.Digest.text c.args.self.now.digests.now) (g.H.Hasher.chunk c.args.hasher.now) c.args.height c.args.first
    _ c.in_default.ensures c.if-height-eq0.true c.digest.ensures

pub node-left-requires : goal.node-left-requires
node-left-requires g t c κs within =
    let l = in_tree_left g.F.Family.shape g.met.F.Family.laws c.args.self.now.leaves c.args.first c.args.height
    c.requires.within c.if-height-eq0.false in
    search rules

pub overflow_add-first : goal.overflow_add-first
overflow_add-first g t c =
    let h = halves c.args.first c.args.height c.requires.within.aligned c.if-height-eq0.false in
    omega (
      arith,
      in_tree_leaves g.F.Family.shape g.met.F.Family.laws c.args.self.now.leaves c.args.first c.args.height
          c.requires.within,
      c.requires.pinned.few,
      c.power.ensures,
      h.length,
    )

pub node-right-requires : goal.node-right-requires
node-right-requires g t c κs within =
    let l = in_tree_right g.F.Family.shape g.met.F.Family.laws c.args.self.now.leaves c.args.first c.args.height
    c.requires.within c.if-height-eq0.false in
    rw c.power.ensures (search rules)

pub node_position-requires-clause-within : goal.node_position-requires-clause-within
node_position-requires-clause-within g t c = omega (
  arith,
  in_tree_leaves g.F.Family.shape g.met.F.Family.laws
      c.args.self.now.leaves c.args.first c.args.height c.requires.within,
  c.requires.pinned.few,
)

pub returns : goal.returns
returns g t c =
    let same = g.met.H.Hasher.over c.args.hasher.now in
    node_joined g.H.Hasher.hash_of (g.H.Hasher.layout c.args.hasher.now) g.F.Family.shape same c.args.self.now.start
    (map g.D.Digest.text c.args.self.now.digests.now)
    (g.H.Hasher.chunk c.args.hasher.now) c.args.height c.args.first _ _ _ c.in_default.ensures c.if-height-eq0.false
    c.node-left.ensures (rw c.power.ensures at c.node-right.ensures)
    (c.node_digest.ensures c.args.first c.args.height
    (record { aligned = c.requires.within.aligned; at = sym c.node_position.ensures }))
