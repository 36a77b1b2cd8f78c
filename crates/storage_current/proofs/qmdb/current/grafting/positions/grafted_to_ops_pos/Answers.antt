use Rattle.std.proofs.Common.{arith, rules, ◌+◌, ◌*◌, ◌≤◌, ◌^◌}
use Rattle.storage_merkle.specs.Laws.Shape.{up, covers_up}
use Rattle.storage_current.proofs.qmdb.current.grafting.positions.grafted_to_ops_pos.Goals as goal

pub power-requires : goal.power-requires
power-requires g c = let u =
    up g.F.Family.shape g.met.F.Family.laws _ _ c.args.height _ (rw c.as_u64.ensures at c.node_at-first.ensures.node) c.requires.fits in
    omega (arith, u.small)

pub overflow_mul-first : goal.overflow_mul-first
overflow_mul-first g c =
    let u = up g.F.Family.shape g.met.F.Family.laws _ _ c.args.height _ (rw c.as_u64.ensures at c.node_at-first.ensures.node) c.requires.fits in
    let f : c.node_at-first.result.0 * c.power.result ≤ 2 ^ 62 = rw c.power.ensures u.first in
    search rules

pub overflow_add-own : goal.overflow_add-own
overflow_add-own g c =
    let u = up g.F.Family.shape g.met.F.Family.laws _ _ c.args.height _ (rw c.as_u64.ensures at c.node_at-first.ensures.node) c.requires.fits in
    let f : c.node_at-first.result.1 + c.args.height ≤ 62 = u.small in
    search rules

pub position-requires-clause-aligned : goal.position-requires-clause-aligned
position-requires-clause-aligned g c =
    let u = up g.F.Family.shape g.met.F.Family.laws _ _ c.args.height _ (rw c.as_u64.ensures at c.node_at-first.ensures.node) c.requires.fits in
    rw c.power.ensures u.units

pub position-requires-clause-fits : goal.position-requires-clause-fits
position-requires-clause-fits g c =
    let u = up g.F.Family.shape g.met.F.Family.laws _ _ c.args.height _ (rw c.as_u64.ensures at c.node_at-first.ensures.node) c.requires.fits in
    rw c.power.ensures u.fits

pub returns : goal.returns
returns g c = covers_up g.F.Family.shape g.met.F.Family.laws _ _ _ _ _ (rw c.as_u64.ensures at c.node_at-first.ensures.node)
    (rw (c.new.ensures, c.position.ensures, c.power.ensures))
