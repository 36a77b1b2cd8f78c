use Rattle.std.proofs.Common.{ap, map, ◌∙◌}
use Rattle.storage_merkle.proofs.Peaks.{places_placed}
use Rattle.storage_merkle.proofs.merkle.peaks.Peaks.over.Goals as goal

pub returns : goal.returns
returns g c =
    let S = g.F.Family.shape in
    ap (map (λ p. (S.position p.first p.height, p.height))) c.over.ensures ∙ places_placed S 0 (S.peaks c.args.leaves)
