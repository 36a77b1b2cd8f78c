use Rattle.std.proofs.Common.{arith, ◌≡◌, ap, ◌∙◌, rules}
use Rattle.storage_merkle.specs.Shape.{leaves_under}
use Rattle.reference.proofs.tree.peaks.Goals as goal

pub push_places-requires : goal.push_places-requires
push_places-requires g c =
    let l : leaves_under c.deref.result.now ≡ c.args.leaves =
    ap leaves_under (c.deref.ensures.value ∙ c.in_ok-heights.ensures) ∙ g.met.F.Family.laws.sum c.args.leaves in
    omega arith

pub returns : goal.returns
returns g c = search rules
