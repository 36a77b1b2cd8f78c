use Rattle.std.proofs.Common.{arith, ◌≡◌, ap, ◌∙◌}
use Rattle.storage_merkle.specs.Shape.{leaves_under}
use Rattle.reference.proofs.count.exact.Goals as goal

pub most_exact-requires-clause-few : goal.most_exact-requires-clause-few
most_exact-requires-clause-few g c =
    let sum : leaves_under c.deref.result.now ≡ c.args.leaves =
    ap leaves_under (c.deref.ensures.value ∙ c.in_ok-heights.ensures) ∙ g.met.F.Family.laws.sum c.args.leaves in
    omega arith
