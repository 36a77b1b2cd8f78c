use Rattle.std.proofs.Common.{arith, ◌≡◌, length, ap, ◌∙◌, rules}
use Rattle.reference.proofs.Nodes.{length-places}
use Rattle.reference.proofs.site.sites.Goals as goal

pub split_folded-requires : goal.split_folded-requires
split_folded-requires g c =
    let peaks : length c.deref.result.now ≡ length (g.F.Family.shape.peaks c.args.leaves) =
    ap length (c.deref.ensures.value ∙ c.in_ok-peaks.ensures)
    ∙ length-places 0 (g.F.Family.shape.peaks c.args.leaves) in
    omega (arith, c.requires.inactive)

pub returns : goal.returns
returns g c = search rules
