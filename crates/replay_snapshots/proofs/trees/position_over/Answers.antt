use Rattle.std.proofs.Common.{arith, ◌^◌, ◌≤◌}
use Rattle.storage_merkle.specs.Laws.Shape.{early_fits}
use Rattle.storage_merkle.specs.Laws.Multiples.{pow_le}
use Rattle.replay_snapshots.proofs.trees.position_over.Goals as goal

pub subtree_root_position-requires-clause-fits :
    goal.subtree_root_position-requires-clause-fits
subtree_root_position-requires-clause-fits g c =
    let height : 2 ^ c.args.height ≤ 2 ^ 61 = pow_le c.args.height 61 c.requires.low in
    rw c.new.ensures (early_fits g.F.Family.shape g.met.F.Family.laws c.args.first c.args.height c.requires.aligned
    (omega (arith, height)))
