use Rattle.std.proofs.Common.{rules, arith, ◌≡◌, ◌+◌, ◌-◌, ◌≤◌, ◌^◌}
use Rattle.storage_merkle.specs.Trees.{ungrafted}
use Rattle.storage_merkle.proofs.Walks.{halves}
use Rattle.storage_merkle.proofs.Siblings.{on_ok}
use Rattle.storage_merkle.proofs.Multi.Needed.{adds_whole, adds_leaf, adds_halves, halves_ascend}
use Rattle.storage_merkle.proofs.merkle.multi.needed.+add_under.Goals as goal

pub returns-then-is_empty : goal.returns-then-is_empty
returns-then-is_empty g t c = adds_whole (ungrafted g.F.Family.shape) g.L.Located.place c.args.items.now c.args.height
    c.args.first _ _ _ c.if-is_empty.ensures c.node_position.ensures c.in_ok-push.ensures.items

pub returns-then-height-eq0 : goal.returns-then-height-eq0
returns-then-height-eq0 g t c = adds_leaf (ungrafted g.F.Family.shape) g.L.Located.place c.args.items.now c.args.height
    c.args.first _ c.if-is_empty.ensures c.if-height-eq0.true c.requires.rising

pub add_under-requires : goal.add_under-requires
add_under-requires g t c κs within =
    let h = halves c.args.first c.args.height c.requires.aligned c.if-height-eq0.false in
    let p = halves_ascend g.L.Located.place c.args.items.now c.split.result.0.now c.split.result.1.now c.args.first
    c.args.height c.power.result c.if-height-eq0.false c.power.ensures c.requires.rising c.split.ensures.parts in
    let l = p.0 in
    search rules

pub add_under-requires-2 : goal.add_under-requires-2
add_under-requires-2 g t c κs within =
    let h = halves c.args.first c.args.height c.requires.aligned c.if-height-eq0.false in
    let p = halves_ascend g.L.Located.place c.args.items.now c.split.result.0.now c.split.result.1.now c.args.first
    c.args.height c.power.result c.if-height-eq0.false c.power.ensures c.requires.rising c.split.ensures.parts in
    let r = p.1 in
    rw c.power.ensures (search rules)

pub returns : goal.returns
returns g t c =
    let h = halves c.args.first c.args.height c.requires.aligned c.if-height-eq0.false in
    let half : c.power.result ≡ 2 ^ (c.args.height - 1) = c.power.ensures in
    let fits : c.args.first + c.power.result ≤ c.args.first + 2 ^ c.args.height = omega (arith, h.length) in
    on_ok c.add_under-2.result
    (λ e. adds_halves (ungrafted g.F.Family.shape) g.L.Located.place c.args.items.now c.split.result.0.now
    c.split.result.1.now c.args.height c.args.first 0 c.power.result _ _ _ c.if-is_empty.ensures
    c.if-height-eq0.false c.requires.rising c.split.ensures.whole (c.split.ensures.parts c.args.first
    (c.args.first + 2 ^ c.args.height) c.requires.rising fits) half c.in_ok-add_under.ensures e)
    c.add_under-2.ensures
