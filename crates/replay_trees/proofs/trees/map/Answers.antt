use Rattle.std.proofs.Common.{arith, ◌≡◌, ◌+◌, ◌*◌, ◌^◌}
use Rattle.replay_trees.proofs.Early.{covers_early}
use Rattle.replay_trees.proofs.trees.map.Goals as goal

pub birth-requires : goal.birth-requires
birth-requires g c =
    let soon = g.met.F.Family.laws.soon c.in-Some.first (c.node_at-first.result.1 + c.args.height) in
    let power = c.power-2.ensures in
    omega arith

pub grafted_to_ops_pos-above-requires-clause-fits :
    goal.grafted_to_ops_pos-above-requires-clause-fits
grafted_to_ops_pos-above-requires-clause-fits g c p covers =
    covers_early g.F.Family.shape g.met.F.Family.laws (2 ^ 62) c.args.height c.args.position c.node_at-first.result.0
    c.node_at-first.result.1 c.node_at-first.ensures.node
    (let leaf : c.in-Some.first ≡ c.node_at-first.result.0 * 2 ^ c.args.height = grind (arith, c.in-Some.ensures, c.power.ensures) in rw (← leaf, ← c.birth.ensures) c.if-birth-gt-MAX_LEAVES.false)
    p (rw c.new.ensures at covers)

pub ops_to_grafted_pos-below-requires-clause-valid :
    goal.ops_to_grafted_pos-below-requires-clause-valid
ops_to_grafted_pos-below-requires-clause-valid g c =
    covers_early g.F.Family.shape g.met.F.Family.laws (2 ^ 62) c.args.height c.args.position c.node_at-first.result.0
    c.node_at-first.result.1 c.node_at-first.ensures.node
    (let leaf : c.in-Some.first ≡ c.node_at-first.result.0 * 2 ^ c.args.height = grind (arith, c.in-Some.ensures, c.power.ensures) in rw (← leaf, ← c.birth.ensures) c.if-birth-gt-MAX_LEAVES.false)
    c.grafted_to_ops_pos-above.result (rw c.new.ensures at c.grafted_to_ops_pos-above.ensures)
