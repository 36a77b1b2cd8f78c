use Rattle.std.proofs.Common.{◌+◌, ◌-◌, ◌/◌, ◌≤◌, arith}
use Rattle.storage_merkle.specs.Shape.{size}
use Rattle.storage_merkle.specs.Laws.Shape.{size_order}
use Rattle.storage_merkle.proofs.merkle.countable.most_leaves_within.Goals as goal

pub nodes_over-requires : goal.nodes_over-requires
nodes_over-requires g c =
    let S = g.F.Family.shape in
    let middle = c.loop-low.low + (c.loop-low.high - c.loop-low.low) / 2 in
    let up : size S middle ≤ size S c.most_leaves-high.result = size_order S g.met.F.Family.laws middle
    c.most_leaves-high.result (omega (arith, c.loop-low-test.true, c.loop-low.invariant.few)) in
    omega (arith, up, c.most_leaves-high.ensures.fits)
