use Rattle.std.proofs.Common.{arith, rules, sym, ap, ◌+◌}
use Rattle.storage_merkle.proofs.Walks.{in_tree_leaves, in_tree_left, in_tree_right, halves}
use Rattle.storage_merkle.proofs.Multi.Nodes.{given_itself, given_halves, halves_rise, node_given, node_leaf, node_halves}
use Rattle.storage_merkle.proofs.merkle.multi.Given.+node.Goals as goal

pub node_position-position-requires-clause-within : goal.node_position-position-requires-clause-within
node_position-position-requires-clause-within g t c = omega (
  arith,
  in_tree_leaves g.F.Family.shape g.met.F.Family.laws
      c.args.self.now.leaves c.args.first c.args.height c.requires.within,
  c.requires.given.few,
)

pub digest-requires-clause-present : goal.digest-requires-clause-present
digest-requires-clause-present g t c =
    given_itself g.E.AsSlice.items g.F.Family.shape c.args.self.now.positions.now c.args.claims.now c.args.height
    c.args.first _ c.if-is_empty.ensures c.node_position-position.ensures c.requires.present

pub returns-then-is_empty : goal.returns-then-is_empty
returns-then-is_empty g t c = λ digest serves.
    node_given g.E.AsSlice.items g.H.Hasher.hash_of (g.H.Hasher.layout c.args.hasher.now) digest
    (g.H.Hasher.chunk c.args.hasher.now) c.args.claims.now c.args.height c.args.first _ c.if-is_empty.ensures
    (c.digest.ensures digest c.args.first c.args.height serves
    (record { aligned = c.requires.within.aligned; at = sym c.node_position-position.ensures }))

pub returns-then-height-eq0 : goal.returns-then-height-eq0
returns-then-height-eq0 g t c = λ digest serves.
    let same = g.met.H.Hasher.over c.args.hasher.now in
    node_leaf g.E.AsSlice.items g.H.Hasher.hash_of (g.H.Hasher.layout c.args.hasher.now) digest
    (g.H.Hasher.chunk c.args.hasher.now) g.F.Family.shape c.args.claims.now c.index-claims-0.result c.args.height
    c.args.first _ _ _ same c.if-is_empty.ensures c.if-height-eq0.true c.requires.rising c.index-claims-0.is
    c.node_position-position.ensures c.leaf_digest.ensures c.as_slice.ensures

pub overflow_add-middle : goal.overflow_add-middle
overflow_add-middle g t c =
    let h = halves c.args.first c.args.height c.requires.within.aligned c.if-height-eq0.false in
    omega (
      arith,
      in_tree_leaves g.F.Family.shape g.met.F.Family.laws c.args.self.now.leaves c.args.first c.args.height
          c.requires.within,
      c.requires.given.few,
      c.power.ensures,
      h.length,
    )

pub node-left-requires : goal.node-left-requires
node-left-requires g t c κs within =
    let l = in_tree_left g.F.Family.shape g.met.F.Family.laws c.args.self.now.leaves c.args.first c.args.height
    c.requires.within c.if-height-eq0.false in
    let em = ap (λ n. c.args.first + n) c.power.ensures in
    let u = (halves_rise g.E.AsSlice.items c.args.claims.now c.split.result.0.now c.split.result.1.now c.args.first
    c.args.height (c.args.first + c.power.result) c.if-height-eq0.false em c.split.ensures.whole
    c.split.ensures.parts c.requires.rising).0 in
    let p = (given_halves g.E.AsSlice.items g.F.Family.shape c.args.self.now.positions.now c.args.claims.now
    c.split.result.0.now c.split.result.1.now c.args.height c.args.first
    (c.args.first + c.power.result) c.if-is_empty.ensures c.if-height-eq0.false em c.split.ensures.whole
    c.split.ensures.parts c.requires.rising c.requires.present).0 in
    search rules

pub node-right-requires : goal.node-right-requires
node-right-requires g t c κs within =
    let l = in_tree_right g.F.Family.shape g.met.F.Family.laws c.args.self.now.leaves c.args.first c.args.height
    c.requires.within c.if-height-eq0.false in
    let em = ap (λ n. c.args.first + n) c.power.ensures in
    let u = (halves_rise g.E.AsSlice.items c.args.claims.now c.split.result.0.now c.split.result.1.now c.args.first
    c.args.height (c.args.first + c.power.result) c.if-height-eq0.false em c.split.ensures.whole
    c.split.ensures.parts c.requires.rising).1 in
    let p = (given_halves g.E.AsSlice.items g.F.Family.shape c.args.self.now.positions.now c.args.claims.now
    c.split.result.0.now c.split.result.1.now c.args.height c.args.first
    (c.args.first + c.power.result) c.if-is_empty.ensures c.if-height-eq0.false em c.split.ensures.whole
    c.split.ensures.parts c.requires.rising c.requires.present).1 in
    rw c.power.ensures (search rules)

pub returns : goal.returns
returns g t c = λ digest serves.
    let em = ap (λ n. c.args.first + n) c.power.ensures in
    node_halves g.E.AsSlice.items g.H.Hasher.hash_of (g.H.Hasher.layout c.args.hasher.now) digest
    (g.H.Hasher.chunk c.args.hasher.now) c.args.claims.now c.split.result.0.now c.split.result.1.now c.args.height
    c.args.first (c.args.first + c.power.result) _ _ _ c.if-is_empty.ensures c.if-height-eq0.false em
    c.split.ensures.whole c.split.ensures.parts c.requires.rising
    (c.node-left.ensures digest serves) (c.node-right.ensures digest serves)
    (c.node_digest.ensures c.args.first c.args.height
    (record { aligned = c.requires.within.aligned; at = sym c.node_position-position.ensures }))
