use Rattle.std.proofs.Common.{◌≡◌, sym, ◌∙◌}
use Rattle.storage_merkle.specs.Laws.Shape.{valid_size, leaves_of_size}
use Rattle.storage_merkle.proofs.merkle.family.Family.peaks.Goals as goal

pub leaves_within-requires : goal.leaves_within-requires
leaves_within-requires g c = rw c.as_u64.ensures
    (valid_size g.Self.Family.shape g.met.Self.Family.laws c.requires.0 c.args.nodes c.requires.1 c.requires.2)

pub returns : goal.returns
returns g c = λ leaves e.
    let s : c.leaves_within.result ≡ leaves =
    leaves_of_size g.Self.Family.shape g.met.Self.Family.laws c.leaves_within.result leaves c.as_u64.result
    (e ∙ sym c.as_u64.ensures) c.leaves_within.ensures.low c.leaves_within.ensures.high in
    rw (← s) c.over.ensures
