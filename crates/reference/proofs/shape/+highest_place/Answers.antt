use Rattle.std.proofs.Common.{arith, ◌≡◌, suc, ◌-◌}
use Rattle.reference.proofs.Digits.{highest_none, highest_here, highest_lower}
use Rattle.reference.proofs.shape.+highest_place.Goals as goal
use Rattle.reference.proofs.shape.+highest_place.Goals.{then-place-eq0-via-then-place-eq0, then-place-eq0-via-else-place-eq0+then-power-number}

pub returns-then-place-eq0-clause-value : goal.returns-then-place-eq0-clause-value
returns-then-place-eq0-clause-value t c =
    elim c.then-place-eq0.branch [
      | then-place-eq0-via-then-place-eq0 w ↦
          highest_none c.args.place c.args.number w.if-place-eq0.true c.requires.some c.requires.below
      | then-place-eq0-via-else-place-eq0+then-power-number w ↦
          highest_here c.args.place c.args.number w.power.result w.power.ensures w.if-power-number.true c.requires.below
    ]

pub highest_place-requires : goal.highest_place-requires
highest_place-requires t c =
    let s : c.args.place ≡ suc (c.args.place - 1) = omega arith in
    let b = highest_lower
    (c.args.place - 1) c.args.place c.args.number c.power.result s c.power.ensures c.if-power-number.false in
    (omega arith, (omega arith, (c.requires.some, b)))
