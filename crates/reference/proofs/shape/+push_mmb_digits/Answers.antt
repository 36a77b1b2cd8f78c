use Rattle.std.proofs.Common.{arith, ◌≡◌, suc, ◌-◌}
use Rattle.reference.proofs.Digits.{on_ok, mmb_no_places, mmb_place}
use Rattle.reference.proofs.shape.+push_mmb_digits.Goals as goal

pub returns-then-places-eq0 : goal.returns-then-places-eq0
returns-then-places-eq0 t c = mmb_no_places c.args.places c.args.number c.args.heights.now.items c.if-places-eq0.true

pub returns : goal.returns
returns t c =
    let s : c.args.places ≡ suc (c.args.places - 1) = omega arith in
    on_ok c.push_mmb_digits.result (mmb_place (c.args.places - 1) c.args.places c.args.number c.digit.result _ _ _ s
    c.digit.ensures.value c.in_ok-push.ensures.items) c.push_mmb_digits.ensures
