use Rattle.std.proofs.Common.{arith, ◌≡◌, suc, ◌-◌}
use Rattle.reference.proofs.Chunks.{number_none, number_empty, number_more, number_small}
use Rattle.reference.proofs.chunk.+number_of.Goals as goal

pub returns-then-places-eq0-clause-value : goal.returns-then-places-eq0-clause-value
returns-then-places-eq0-clause-value t c = number_none c.args.places c.args.bits.now c.if-places-eq0.true

pub returns-in-None-clause-value : goal.returns-in-None-clause-value
returns-in-None-clause-value t c = let s : c.args.places ≡ suc (c.args.places - 1) = omega arith in
    number_empty (c.args.places - 1) c.args.places c.args.bits.now s c.in-None.ensures.cases

pub returns-in-Some-clause-value : goal.returns-in-Some-clause-value
returns-in-Some-clause-value t c =
    let s : c.args.places ≡ suc (c.args.places - 1) = omega arith in
    number_more (c.args.places - 1) c.args.places c.args.bits.now c.in-Some.rest.now c.in-Some.bit.now _ _ s
    c.in-Some.ensures.cases.0 c.bit_value.ensures.value c.number_of.ensures.value

pub returns-in-Some-clause-small : goal.returns-in-Some-clause-small
returns-in-Some-clause-small t c =
    let s : c.args.places ≡ suc (c.args.places - 1) = omega arith in
    number_small (c.args.places - 1) c.args.places _ _ s c.bit_value.ensures.small c.number_of.ensures.small
