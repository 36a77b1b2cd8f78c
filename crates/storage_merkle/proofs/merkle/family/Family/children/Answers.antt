use Rattle.storage_merkle.specs.Laws.Shape.{at_height, children, children_of}
use Rattle.storage_merkle.proofs.merkle.family.Family.children.Goals as goal

pub position-left-requires-clause-aligned : goal.position-left-requires-clause-aligned
position-left-requires-clause-aligned g c =
    let n = at_height g.Self.Family.shape g.met.Self.Family.laws c.args.position _ _ _ c.requires.own.0 c.args.height
    c.as_u64.ensures c.node_at-first.ensures.node c.requires.own.1 in
    let k = children g.Self.Family.shape g.met.Self.Family.laws _ _ _ n c.requires.inner c.requires.valid in
    k.left

pub position-right-requires-clause-aligned : goal.position-right-requires-clause-aligned
position-right-requires-clause-aligned g c =
    let n = at_height g.Self.Family.shape g.met.Self.Family.laws c.args.position _ _ _ c.requires.own.0 c.args.height
    c.as_u64.ensures c.node_at-first.ensures.node c.requires.own.1 in
    let k = children g.Self.Family.shape g.met.Self.Family.laws _ _ _ n c.requires.inner c.requires.valid in
    rw c.power.ensures k.right

pub returns : goal.returns
returns g c = λ first node.
    let n = at_height g.Self.Family.shape g.met.Self.Family.laws c.args.position _ _ _ c.requires.own.0 c.args.height
    c.as_u64.ensures c.node_at-first.ensures.node c.requires.own.1 in
    children_of g.Self.Family.shape g.met.Self.Family.laws c.args.position first _ c.args.height _ _ node n
    c.requires.inner (rw (c.new.ensures, c.position-left.ensures))
    (rw (c.new-2.ensures, c.position-right.ensures, c.power.ensures))
