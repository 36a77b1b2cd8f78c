use Rattle.std.proofs.Common.{ℕ, ◌≤◌, ◌<◌, ◌-◌, ◌/◌, ◌^◌, arith, refl, sym, ap, ◌∙◌}
use Rattle.storage_merkle.specs.Kept.{kept_at}
use Rattle.storage_merkle.specs.Laws.Shape.{covers_down, down}
use Rattle.storage_merkle.specs.Nodes.{CoversSame}
use Rattle.storage_merkle.specs.Shape.{size}
use Rattle.storage_current.specs.NodeLists.{kept_from}
use Rattle.storage_current.proofs.Joined.{joined_above, joined_below}
use Rattle.storage_current.proofs.Retaining.{kept_before, kept_behind}
use Rattle.storage_current.proofs.qmdb.current.view.view_digest.Goals as goal

pub returns-then-as_u64-nodes_over : goal.returns-then-as_u64-nodes_over
returns-then-as_u64-nodes_over g c =
    let S = g.F.Family.shape in
    let m = c.args.operations.now in
    let k = c.args.chunks.now in
    let p : ℕ = c.args.position in
    let valid : p ≤ size S (2 ^ 62) = c.if-not-is_valid.ensures.0 refl in
    let before : p < size S m.boundary = omega (
      arith,
      ap (size S) c.requires.boundary,
      c.nodes_over.ensures,
      c.as_u64-then-own-height.ensures,
      c.if-as_u64-nodes_over.true,
    ) in
    sym (joined_below S g.met.F.Family.laws c.args.height (size S m.leaves) (kept_at S k.boundary k.pinned k.nodes)
    (kept_from S m) p c.node_at-first.result.0 c.node_at-first.result.1 (omega (arith, c.size.ensures)) valid
    (rw c.as_u64-3.ensures at c.node_at-first.ensures.node) c.if-own-height.true ∙ kept_before S m p before)

pub returns-then-own-height : goal.returns-then-own-height
returns-then-own-height g c =
    let S = g.F.Family.shape in
    let m = c.args.operations.now in
    let k = c.args.chunks.now in
    let p : ℕ = c.args.position in
    let valid : p ≤ size S (2 ^ 62) = c.if-not-is_valid.ensures.0 refl in
    let there : size S m.boundary ≤ p =
    omega (arith, ap (size S) c.requires.boundary, c.nodes_over.ensures, c.as_u64-then-own-height.ensures, c.if-as_u64-nodes_over.false) in
    c.get_node.ensures ∙ sym (joined_below S g.met.F.Family.laws c.args.height (size S m.leaves)
    (kept_at S k.boundary k.pinned k.nodes) (kept_from S m) p c.node_at-first.result.0 c.node_at-first.result.1
    (omega (arith, c.size.ensures)) valid (rw c.as_u64-3.ensures at c.node_at-first.ensures.node) c.if-own-height.true
    ∙ kept_behind S m p there)

pub position-requires-clause-aligned : goal.position-requires-clause-aligned
position-requires-clause-aligned g c =
    let valid : c.args.position ≤ size g.F.Family.shape (2 ^ 62) = c.if-not-is_valid.ensures.0 refl in
    let d = down g.F.Family.shape g.met.F.Family.laws _ _ c.args.height _
    (rw c.as_u64-3.ensures at c.node_at-first.ensures.node) c.if-own-height.false c.requires.low valid in
    d.units

pub position-requires-clause-fits : goal.position-requires-clause-fits
position-requires-clause-fits g c =
    let valid : c.args.position ≤ size g.F.Family.shape (2 ^ 62) = c.if-not-is_valid.ensures.0 refl in
    let d = down g.F.Family.shape g.met.F.Family.laws _ _ c.args.height _
    (rw c.as_u64-3.ensures at c.node_at-first.ensures.node) c.if-own-height.false c.requires.low valid in
    d.fits

pub returns : goal.returns
returns g c =
    let S = g.F.Family.shape in
    let m = c.args.operations.now in
    let k = c.args.chunks.now in
    let node = rw c.as_u64-3.ensures at c.node_at-first.ensures.node in
    let valid : c.args.position ≤ size S (2 ^ 62) = c.if-not-is_valid.ensures.0 refl in
    let q = S.position (c.node_at-first.result.0 / 2 ^ c.args.height) (c.node_at-first.result.1 - c.args.height) in
    let covers : CoversSame S c.args.height q c.args.position =
    covers_down S g.met.F.Family.laws _ _ c.args.height c.args.position q node c.if-own-height.false refl in
    (rw (c.new.ensures, c.position.ensures) at c.get_node-2.ensures)
    ∙ sym (joined_above S g.met.F.Family.laws c.args.height (size S m.leaves) (kept_at S k.boundary k.pinned k.nodes)
    (kept_from S m) c.args.position q (omega (arith, c.size.ensures)) valid covers)
