use Rattle.std.proofs.Common.{arith, ◌≡◌, suc, ◌+◌, ◌-◌, ◌^◌, ap, ap₂, refl, ◌∙◌, rules}
use Rattle.storage_merkle.specs.Calc.{eval}
use Rattle.storage_merkle.specs.Trees.{Peak, part}
use Rattle.reference.specs.Layouts.{laid_out, valued}
use Rattle.reference.proofs.Nodes.{node_halves}
use Rattle.reference.proofs.node.+node_digest.Goals as goal

pub returns : goal.returns
returns g t c =
    let s : c.args.place.height ≡ suc (c.args.place.height - 1) = omega (arith, c.height-height.ensures.value) in
    let T = laid_out g.F.Family.shape (g.G.Grafts.grafted c.args.grafts.now) in
    let v = valued (g.S.Source.digest c.args.source.now) (g.S.Source.item c.args.source.now)
    (g.G.Grafts.chunk c.args.grafts.now) in
    let part_of = λ (p : Peak). eval g.H.Hasher.hash_of v (part T (g.S.Source.cut c.args.source.now) p) in
    node_halves g.H.Hasher.hash_of T (g.S.Source.cut c.args.source.now) v
    (c.args.place.height - 1) c.args.place.height c.args.place.first
    (c.args.place.first + 2 ^ (c.args.place.height - 1)) c.in_ok-position.position _ _ _ _ s c.in_default.ensures
    refl (c.in_ok-position.ensures ∙ ap₂ g.F.Family.shape.position c.first-first.ensures c.height-height.ensures.value)
    (c.in_ok-left.ensures ∙ ap part_of c.left.ensures) (c.in_ok-right.ensures
    ∙ ap part_of c.right.ensures) c.pair_digest-inner.ensures c.in_ok-digest.ensures

pub returns-then-height-eq0 : goal.returns-then-height-eq0
returns-then-height-eq0 g t c = search rules
