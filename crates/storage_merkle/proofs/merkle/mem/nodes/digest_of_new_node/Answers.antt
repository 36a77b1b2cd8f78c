use Rattle.std.proofs.Common.{arith, rules, map, option_map, ◌+◌, ◌-◌, ◌≡◌, ◌≤◌, ◌∷◌, [], ◌++◌, ap, ◌∙◌, sym, subst}
use Rattle.std.proofs.lemmas.List.{length-map}
use Rattle.storage_merkle.specs.Shape.{size}
use Rattle.storage_merkle.specs.Hashing.{node_over}
use Rattle.storage_merkle.specs.Kept.{IsClean}
use Rattle.storage_merkle.proofs.MemNodes.{found, lent_some, seen, value_of, kept_some_at, kept_is, children_kept, children_of, leaf_born, inner_born, clean_children, some_height, same_clean}
use Rattle.storage_merkle.proofs.merkle.mem.nodes.digest_of_new_node.Goals as goal

pub power-half-requires : goal.power-half-requires
power-half-requires g c =
    let k = children_of g.F.Family.shape g.met.F.Family.laws c.args.leaves c.args.offset _ _ c.requires.few
    c.requires.within c.node_after-first.ensures c.if-height-eq0.false in
    omega (arith, k.small)

pub position-requires-clause-aligned : goal.position-requires-clause-aligned
position-requires-clause-aligned g c =
    let k = children_of g.F.Family.shape g.met.F.Family.laws c.args.leaves c.args.offset _ _ c.requires.few
    c.requires.within c.node_after-first.ensures c.if-height-eq0.false in
    k.left

pub unwrap-left-requires : goal.unwrap-left-requires
unwrap-left-requires g c =
    let S = g.F.Family.shape in
    let i = children_kept S g.met.F.Family.laws c.args.boundary c.args.leaves c.args.offset _ _ c.requires.order
    c.if-height-eq0.false c.node_after-first.ensures in
    let d = kept_some_at S g.met.F.Family.laws c.args.boundary _ _ _ c.position.result
    (map g.H.Digest.Digest.text c.args.pinned.now) (map g.H.Digest.Digest.text c.args.nodes.now) c.position.ensures
    i.0 (rw length-map c.requires.count) (rw length-map c.requires.pins) in
    lent_some (λ x. x.now) c.node_at_position.result (found g.H.Digest.Digest.text (option_map (λ x. x.now) c.node_at_position.result) _ d.0 (seen g.H.Digest.Digest.text g.F.Family.shape c.args.boundary
    c.args.pinned.now c.args.nodes.now _ _ c.node_at_position.ensures) d.1)

pub overflow_add-first : goal.overflow_add-first
overflow_add-first g c =
    let k = children_of g.F.Family.shape g.met.F.Family.laws c.args.leaves c.args.offset _ _ c.requires.few
    c.requires.within c.node_after-first.ensures c.if-height-eq0.false in
    rw c.power-half.ensures (let f = k.first in search rules)

pub position-requires-2-clause-aligned : goal.position-requires-2-clause-aligned
position-requires-2-clause-aligned g c =
    let k = children_of g.F.Family.shape g.met.F.Family.laws c.args.leaves c.args.offset _ _ c.requires.few
    c.requires.within c.node_after-first.ensures c.if-height-eq0.false in
    rw c.power-half.ensures k.right

pub position-requires-2-clause-fits : goal.position-requires-2-clause-fits
position-requires-2-clause-fits g c =
    let k = children_of g.F.Family.shape g.met.F.Family.laws c.args.leaves c.args.offset _ _ c.requires.few
    c.requires.within c.node_after-first.ensures c.if-height-eq0.false in
    rw c.power-half.ensures k.right_fits

pub unwrap-right-requires : goal.unwrap-right-requires
unwrap-right-requires g c =
    let S = g.F.Family.shape in
    let i = children_kept S g.met.F.Family.laws c.args.boundary c.args.leaves c.args.offset _ _ c.requires.order
    c.if-height-eq0.false c.node_after-first.ensures in
    let d = kept_some_at S g.met.F.Family.laws c.args.boundary _ _ _ c.position-2.result
    (map g.H.Digest.Digest.text c.args.pinned.now) (map g.H.Digest.Digest.text c.args.nodes.now) (c.position-2.ensures
    ∙ ap (λ m. S.position (c.node_after-first.result.0 + m) (c.node_after-first.result.1 - 1)) c.power-half.ensures)
    i.1 (rw length-map c.requires.count) (rw length-map c.requires.pins) in
    lent_some (λ x. x.now) c.node_at_position-2.result (found g.H.Digest.Digest.text (option_map (λ x. x.now) c.node_at_position-2.result) _ d.0 (seen g.H.Digest.Digest.text g.F.Family.shape c.args.boundary
    c.args.pinned.now c.args.nodes.now _ _ c.node_at_position-2.ensures) d.1)

pub returns-then-height-eq0 : goal.returns-then-height-eq0
returns-then-height-eq0 g c list dirty len holds a k j clean =
    leaf_born g.F.Family.shape g.met.F.Family.laws g.H.Hasher.hash_of (g.H.Hasher.layout c.args.hasher.now)
    (g.H.Hasher.chunk c.args.hasher.now) list _ c.args.leaves len c.args.offset _ _ c.if-height-eq0.true c.requires.within
    c.node_after-first.ensures a k j

pub node_digest-requires : goal.node_digest-requires
node_digest-requires g c =
    let at : c.new-position.result ≡ size g.F.Family.shape c.args.leaves + c.args.offset =
    c.new-position.ensures ∙ ap (λ m. m + c.args.offset) c.nodes_over.ensures in
    subst (λ q. g.H.Hasher.takes c.args.hasher.now q) (sym at) (c.requires.takes _ _
    (c.node_after-first.ensures, let above : 1 ≤ c.node_after-first.result.1 = omega (arith, c.if-height-eq0.false) in above))

pub returns : goal.returns
returns g c list dirty len holds a k j clean =
    let S = g.F.Family.shape in
    let L = g.met.F.Family.laws in
    let f = g.H.Digest.Digest.text in
    let T = g.H.Hasher.layout c.args.hasher.now in
    let chunk = g.H.Hasher.chunk c.args.hasher.now in
    let p = size S c.args.leaves + c.args.offset in
    let grown = list ++ f c.args.leaf ∷ [] in
    let node = node_over g.H.Hasher.hash_of T chunk grown in
    let n = c.node_after-first.result in
    let at : c.new-position.result ≡ p = c.new-position.ensures ∙ ap (λ m. m + c.args.offset) c.nodes_over.ensures in
    let i = children_kept S L c.args.boundary c.args.leaves c.args.offset _ _ c.requires.order c.if-height-eq0.false
    c.node_after-first.ensures in
    let own : IsClean dirty n.0 n.1 = same_clean S L dirty p a k n.0 n.1 j c.node_after-first.ensures clean in
    let down = clean_children dirty n.0 n.1 (some_height n.1 c.if-height-eq0.false) own in
    let x = kept_is S L node dirty c.args.boundary p _ _ (map f c.args.pinned.now) (map f c.args.nodes.now) i.0
    (rw length-map c.requires.count) holds down.0 in
    let y = kept_is S L node dirty c.args.boundary p _ _ (map f c.args.pinned.now) (map f c.args.nodes.now) i.1
    (rw length-map c.requires.count) holds down.1 in
    inner_born S L g.H.Hasher.hash_of T chunk grown p n.0 n.1 (f c.unwrap-left.result.now)
    (f c.unwrap-right.result.now) _ c.if-height-eq0.false c.node_after-first.ensures
    (value_of f (option_map (λ x. x.now) c.node_at_position.result) _ _ _ (seen g.H.Digest.Digest.text g.F.Family.shape c.args.boundary c.args.pinned.now
    c.args.nodes.now _ _ c.node_at_position.ensures) (ap (option_map (λ x. x.now)) c.unwrap-left.ensures) (rw c.position.ensures x))
    (value_of f (option_map (λ x. x.now) c.node_at_position-2.result) _ _ _ (seen g.H.Digest.Digest.text g.F.Family.shape c.args.boundary c.args.pinned.now
    c.args.nodes.now _ _ c.node_at_position-2.ensures) (ap (option_map (λ x. x.now)) c.unwrap-right.ensures)
    (rw (c.position-2.ensures, c.power-half.ensures) y))
    (c.node_digest.ensures n.0 n.1 (rw at c.node_after-first.ensures))
    a k j
