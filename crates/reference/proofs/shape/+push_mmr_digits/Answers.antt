use Rattle.std.proofs.Common.{arith, ◌≡◌, suc, ◌-◌}
use Rattle.reference.proofs.Digits.{on_ok, mmr_no_places, mmr_digit_0, mmr_digit_1}
use Rattle.reference.proofs.shape.+push_mmr_digits.Goals as goal

pub returns-then-places-eq0 : goal.returns-then-places-eq0
returns-then-places-eq0 t c = mmr_no_places c.args.places c.args.number c.args.heights.now.items c.if-places-eq0.true

pub returns-then-digit-eq0 : goal.returns-then-digit-eq0
returns-then-digit-eq0 t c =
    let s : c.args.places ≡ suc (c.args.places - 1) = omega arith in
    on_ok c.push_mmr_digits.result (mmr_digit_0 (c.args.places - 1) c.args.places c.args.number c.digit.result _ _ s
    c.digit.ensures.value c.if-digit-eq0.true) c.push_mmr_digits.ensures

pub returns : goal.returns
returns t c =
    let s : c.args.places ≡ suc (c.args.places - 1) = omega arith in
    on_ok c.push_mmr_digits-2.result
    (mmr_digit_1 (c.args.places - 1) c.args.places c.args.number c.digit.result _ _ _ s c.digit.ensures.value
    c.digit.ensures.small c.if-digit-eq0.false c.in_ok-push.ensures.items) c.push_mmr_digits-2.ensures
