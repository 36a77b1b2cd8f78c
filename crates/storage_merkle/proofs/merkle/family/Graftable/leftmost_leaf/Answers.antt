use Rattle.std.proofs.Common.{arith}
use Rattle.storage_merkle.proofs.Births.{comes_after, first_leaf, first_birth}
use Rattle.storage_merkle.proofs.merkle.family.Graftable.leftmost_leaf.Goals as goal

pub birth-requires : goal.birth-requires
birth-requires g c =
    let e = comes_after g.Self.Family.shape g.met.Self.Family.laws c.most_leaves_within-birth.result c.args.position _ _
    c.requires.1 (omega (arith, c.most_leaves_within-birth.ensures.low, c.as_u64.ensures))
    (omega (arith, c.most_leaves_within-birth.ensures.high, c.as_u64.ensures)) in
    omega (arith, e, c.most_leaves_within-birth.ensures.small)

pub overflow_sub-birth : goal.overflow_sub-birth
overflow_sub-birth g c =
    let e = comes_after g.Self.Family.shape g.met.Self.Family.laws c.most_leaves_within-birth.result c.args.position _ _
    c.requires.1 (omega (arith, c.most_leaves_within-birth.ensures.low, c.as_u64.ensures))
    (omega (arith, c.most_leaves_within-birth.ensures.high, c.as_u64.ensures)) in
    omega (arith, e, c.birth.ensures)

pub returns-clause-node : goal.returns-clause-node
returns-clause-node g c =
    let x = first_leaf g.Self.Family.shape g.met.Self.Family.laws c.most_leaves_within-birth.result c.args.position _ _
    c.requires.1 (omega (arith, c.most_leaves_within-birth.ensures.low, c.as_u64.ensures))
    (omega (arith, c.most_leaves_within-birth.ensures.high, c.as_u64.ensures)) in
    rw (c.new.ensures, c.birth.ensures) x

pub returns-clause-early : goal.returns-clause-early
returns-clause-early g c =
    let e = first_birth g.Self.Family.shape g.met.Self.Family.laws c.most_leaves_within-birth.result c.args.position _ _
    c.requires.1 (omega (arith, c.most_leaves_within-birth.ensures.low, c.as_u64.ensures))
    (omega (arith, c.most_leaves_within-birth.ensures.high, c.as_u64.ensures)) in
    rw (c.new.ensures, c.birth.ensures) (omega (arith, e, c.most_leaves_within-birth.ensures.small))
