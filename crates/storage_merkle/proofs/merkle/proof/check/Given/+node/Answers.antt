use Rattle.std.proofs.Common.{arith, rules, map, refl, sym, [], ◌∙◌}
use Rattle.storage_merkle.specs.CheckParts.{given_values}
use Rattle.storage_merkle.proofs.Walks.{fits_within, in_tree_leaves, in_tree_left, in_tree_right, halves}
use Rattle.storage_merkle.proofs.Check.Nodes.{present_itself, present_halves, node_sibling, node_leaf, node_halves, element_at}
use Rattle.storage_merkle.proofs.Found.{adds_nothing, adds_then, keeps_last, found_itself, found_leaf, found_halves}
use Rattle.storage_merkle.proofs.merkle.proof.check.Given.+node.Goals as goal

pub node_position-position-requires-clause-within : goal.node_position-position-requires-clause-within
node_position-position-requires-clause-within g t c = omega (
  arith,
  in_tree_leaves g.F.Family.shape g.met.F.Family.laws
      c.args.self.now.leaves c.args.first c.args.height c.requires.within,
  c.requires.given.few,
)

pub is_apart-requires-clause-within : goal.is_apart-requires-clause-within
is_apart-requires-clause-within g t c = omega (
  arith,
  in_tree_leaves g.F.Family.shape g.met.F.Family.laws
      c.args.self.now.leaves c.args.first c.args.height c.requires.within,
  c.requires.given.few,
)

pub node_position-leaf-requires-clause-within : goal.node_position-leaf-requires-clause-within
node_position-leaf-requires-clause-within g t c = omega (
  arith,
  in_tree_leaves g.F.Family.shape g.met.F.Family.laws
      c.args.self.now.leaves c.args.first c.args.height c.requires.within,
  c.requires.given.few,
)

pub keep-requires-clause-within : goal.keep-requires-clause-within
keep-requires-clause-within g t c = omega (
  arith,
  in_tree_leaves g.F.Family.shape g.met.F.Family.laws
      c.args.self.now.leaves c.args.first c.args.height c.requires.within,
  c.requires.given.few,
)

pub keep-requires-2-clause-within : goal.keep-requires-2-clause-within
keep-requires-2-clause-within g t c = omega (
  arith,
  in_tree_leaves g.F.Family.shape g.met.F.Family.laws
      c.args.self.now.leaves c.args.first c.args.height c.requires.within,
  c.requires.given.few,
)

pub sibling-requires-clause-present : goal.sibling-requires-clause-present
sibling-requires-clause-present g t c =
    present_itself g.F.Family.shape c.args.self.now.siblings.now c.args.self.now.start c.args.self.now.end c.args.height
    c.args.first _ c.if-is_apart.ensures c.node_position-position.ensures c.requires.present

pub returns-then-is_apart : goal.returns-then-is_apart
returns-then-is_apart g t c = λ digest serves.
    let same = g.met.H.Hasher.over c.args.hasher.now in
    let v = given_values digest c.args.self.now.start (map g.E.AsSlice.items c.args.self.now.elements.now)
    (g.H.Hasher.chunk c.args.hasher.now) in
    let is =
    node_sibling g.H.Hasher.hash_of (g.H.Hasher.layout c.args.hasher.now) c.args.self.now.start c.args.self.now.end
    v c.args.height c.args.first _ c.if-is_apart.ensures (c.sibling.ensures digest c.args.first c.args.height serves
    (record { aligned = c.requires.within.aligned; at = sym c.node_position-position.ensures })) in
    keeps_last g.D.Digest.text _ c.keep.result c.sibling.result _
    (g.F.Family.shape.position c.args.first c.args.height) c.args.found.now
    c.args.found.now c.keep.new.found [] _ is
    (found_itself g.H.Hasher.hash_of
    (g.H.Hasher.layout c.args.hasher.now) c.args.self.now.start c.args.self.now.end v g.F.Family.shape c.args.height
    c.args.first (g.F.Family.shape.position c.args.first c.args.height) same c.if-is_apart.ensures refl)
    (adds_nothing _ c.args.found.now [] refl) c.keep.ensures.same c.keep.ensures.kept

pub returns-then-height-eq0 : goal.returns-then-height-eq0
returns-then-height-eq0 g t c = λ digest serves.
    let same = g.met.H.Hasher.over c.args.hasher.now in
    let v = given_values digest c.args.self.now.start (map g.E.AsSlice.items c.args.self.now.elements.now)
    (g.H.Hasher.chunk c.args.hasher.now) in
    let is = node_leaf g.H.Hasher.hash_of (g.H.Hasher.layout c.args.hasher.now) c.args.self.now.start
    c.args.self.now.end v g.F.Family.shape c.args.height c.args.first _ _ _ same c.if-is_apart.ensures
    c.if-height-eq0.true c.node_position-leaf.ensures c.leaf_digest-digest.ensures
    (c.as_slice.ensures ∙ element_at g.E.AsSlice.items c.args.self.now.elements.now c.args.self.now.start
    c.args.self.now.end c.args.first c.args.height c.index-self-first.result c.if-is_apart.ensures
    c.if-height-eq0.true c.requires.given.range) in
    keeps_last g.D.Digest.text _ c.keep-then-height-eq0.result c.leaf_digest-digest.result _
    (g.F.Family.shape.position c.args.first c.args.height) c.args.found.now c.args.found.now c.keep-then-height-eq0.new.found [] _ is
    (found_leaf g.H.Hasher.hash_of
    (g.H.Hasher.layout c.args.hasher.now) c.args.self.now.start c.args.self.now.end v g.F.Family.shape c.args.height
    c.args.first (g.F.Family.shape.position c.args.first c.args.height) same c.if-height-eq0.true refl)
    (adds_nothing _ c.args.found.now [] refl) c.keep-then-height-eq0.ensures.same c.keep-then-height-eq0.ensures.kept

pub node-requires : goal.node-requires
node-requires g t c κs within =
    let l = in_tree_left g.F.Family.shape g.met.F.Family.laws c.args.self.now.leaves c.args.first c.args.height
    c.requires.within c.if-height-eq0.false in
    let p = (present_halves g.F.Family.shape c.args.self.now.siblings.now c.args.self.now.start c.args.self.now.end
    c.args.height c.args.first c.if-is_apart.ensures c.if-height-eq0.false c.requires.present).0 in
    search rules

pub overflow_add-first : goal.overflow_add-first
overflow_add-first g t c =
    let h = halves c.args.first c.args.height c.requires.within.aligned c.if-height-eq0.false in
    omega (
      arith,
      in_tree_leaves g.F.Family.shape g.met.F.Family.laws c.args.self.now.leaves c.args.first c.args.height
          c.requires.within,
      c.requires.given.few,
      c.power.ensures,
      h.length,
    )

pub node-requires-2 : goal.node-requires-2
node-requires-2 g t c κs within =
    let l = in_tree_right g.F.Family.shape g.met.F.Family.laws c.args.self.now.leaves c.args.first c.args.height
    c.requires.within c.if-height-eq0.false in
    let p = (present_halves g.F.Family.shape c.args.self.now.siblings.now c.args.self.now.start c.args.self.now.end
    c.args.height c.args.first c.if-is_apart.ensures c.if-height-eq0.false c.requires.present).1 in
    rw c.power.ensures (search rules)

pub node_digest_over-digest-requires-clause-fits : goal.node_digest_over-digest-requires-clause-fits
node_digest_over-digest-requires-clause-fits g t c =
    fits_within g.F.Family.shape g.met.F.Family.laws c.args.first c.args.height c.requires.within.aligned
    (omega (
      arith,
      in_tree_leaves g.F.Family.shape g.met.F.Family.laws
          c.args.self.now.leaves c.args.first c.args.height c.requires.within,
      c.requires.given.few,
    ))

pub node_digest_over-digest-requires-clause-takes : goal.node_digest_over-digest-requires-clause-takes
node_digest_over-digest-requires-clause-takes g t c = c.requires.takes _ c.requires.given.few c.requires.within.inside

pub returns : goal.returns
returns g t c = λ digest serves.
    let same = g.met.H.Hasher.over c.args.hasher.now in
    let v = given_values digest c.args.self.now.start (map g.E.AsSlice.items c.args.self.now.elements.now)
    (g.H.Hasher.chunk c.args.hasher.now) in
    let left = c.in_ok-left.ensures digest serves in
    let right = rw c.power.ensures at c.in_ok-right.ensures digest serves in
    let is =
    node_halves g.H.Hasher.hash_of (g.H.Hasher.layout c.args.hasher.now) c.args.self.now.start c.args.self.now.end v
    c.args.height c.args.first _ _ _ c.if-is_apart.ensures c.if-height-eq0.false left.0 right.0
    c.node_digest_over-digest.ensures in
    keeps_last g.D.Digest.text _ c.keep-2.result c.node_digest_over-digest.result _
    (g.F.Family.shape.position c.args.first c.args.height) c.args.found.now
    c.node-2.new.found c.keep-2.new.found _ _ is
    (found_halves g.H.Hasher.hash_of (g.H.Hasher.layout c.args.hasher.now) c.args.self.now.start c.args.self.now.end v
    g.F.Family.shape c.args.height c.args.first (g.F.Family.shape.position c.args.first c.args.height) same
    c.if-is_apart.ensures c.if-height-eq0.false refl)
    (adds_then _ c.args.found.now c.node.new.found c.node-2.new.found _ _ _ refl left.1 right.1) c.keep-2.ensures.same
    c.keep-2.ensures.kept
