use Rattle.std.proofs.Common.{sym, ◌∙◌, ◌≤◌}
use Rattle.storage_merkle.specs.Laws.Shape.{down, covers_down}
use Rattle.storage_current.proofs.qmdb.current.grafting.positions.ops_to_grafted_pos.Goals as goal

pub position-requires-clause-aligned : goal.position-requires-clause-aligned
position-requires-clause-aligned g c =
    let le : c.args.height ≤ c.node_at-first.result.1 = c.requires.above _ _ (rw c.as_u64.ensures at c.node_at-first.ensures.node) in
    let d = down g.F.Family.shape g.met.F.Family.laws _ _ c.args.height _ (rw c.as_u64.ensures at c.node_at-first.ensures.node) le c.requires.low
    c.requires.valid in
    d.units

pub position-requires-clause-fits : goal.position-requires-clause-fits
position-requires-clause-fits g c =
    let le : c.args.height ≤ c.node_at-first.result.1 = c.requires.above _ _ (rw c.as_u64.ensures at c.node_at-first.ensures.node) in
    let d = down g.F.Family.shape g.met.F.Family.laws _ _ c.args.height _ (rw c.as_u64.ensures at c.node_at-first.ensures.node) le c.requires.low
    c.requires.valid in
    d.fits

pub returns : goal.returns
returns g c =
    let le : c.args.height ≤ c.node_at-first.result.1 = c.requires.above _ _ (rw c.as_u64.ensures at c.node_at-first.ensures.node) in
    covers_down g.F.Family.shape g.met.F.Family.laws _ _ _ _ _ (rw c.as_u64.ensures at c.node_at-first.ensures.node) le
    (sym c.position.ensures ∙ sym c.new.ensures)
