use Rattle.std.proofs.Common.{rules}
use Rattle.storage_merkle.specs.Trees.{ungrafted}
use Rattle.storage_merkle.proofs.Walks.{halves}
use Rattle.storage_merkle.proofs.Siblings.{adds_itself, adds_leaf, adds_covered, adds_halves, on_ok, not_below}
use Rattle.storage_merkle.proofs.merkle.plan.+add_apart.Goals as goal
use Rattle.storage_merkle.proofs.merkle.plan.+add_apart.Goals.{then-height-eq0-via-then-height-eq0, then-height-eq0-via-else-height-eq0+then-first-power, then-start-first, else-start-first}

pub returns-then-is_apart : goal.returns-then-is_apart
returns-then-is_apart g t c = adds_itself (ungrafted g.F.Family.shape) c.args.start c.args.end c.args.height
    c.args.first _ _ _ c.if-is_apart.ensures c.node_position.ensures c.in_ok-push.ensures.items

pub returns-then-height-eq0 : goal.returns-then-height-eq0
returns-then-height-eq0 g t c =
    elim c.then-height-eq0.branch [
      | then-height-eq0-via-then-height-eq0 w ↦ adds_leaf (ungrafted g.F.Family.shape) c.args.start c.args.end
          c.args.height c.args.first _ c.if-is_apart.ensures w.if-height-eq0.true
      | then-height-eq0-via-else-height-eq0+then-first-power w ↦ elim w.if-start-first.branch [
        | then-start-first v ↦ adds_covered (ungrafted g.F.Family.shape) c.args.start c.args.end c.args.height
            c.args.first _ _ _ v.if-start-first.true v.power.ensures v.value-is w.if-first-power.true
        | else-start-first v ↦ absurd (not_below _ _ _ w.if-first-power.true v.value-is v.if-start-first.false)
      ]
    ]

pub add_apart-requires : goal.add_apart-requires
add_apart-requires g t c κs within = let h =
    halves c.args.first c.args.height c.requires.aligned c.if-height-eq0.false in search rules

pub add_apart-requires-2 : goal.add_apart-requires-2
add_apart-requires-2 g t c κs within = rw c.power-2.ensures (let h =
    halves c.args.first c.args.height c.requires.aligned c.if-height-eq0.false in search rules)

pub returns : goal.returns
returns g t c = on_ok c.add_apart-2.result (adds_halves (ungrafted g.F.Family.shape) c.args.start c.args.end
    c.args.height c.args.first c.args.positions.now.items c.add_apart.new.positions.items
    c.add_apart-2.new.positions.items c.if-is_apart.ensures c.if-height-eq0.false c.in_ok-add_apart.ensures)
    (rw c.power-2.ensures at c.add_apart-2.ensures)
