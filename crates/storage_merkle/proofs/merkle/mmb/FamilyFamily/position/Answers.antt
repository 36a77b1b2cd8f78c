use Rattle.std.proofs.Common.{arith, rules, ◌≤◌, ◌-◌, ◌+◌, ◌*◌, ◌^◌, ◌<◌}
use Rattle.storage_merkle.specs.Laws.Mmb.{mmb_raised}
use Rattle.storage_merkle.specs.Laws.Multiples.{pow_le}
use Rattle.std.proofs.lemmas.Nat.{pow_pos}
use Rattle.storage_merkle.proofs.merkle.mmb.FamilyFamily.position.Goals as goal

pub power-requires : goal.power-requires
power-requires c = let r =
    mmb_raised c.args.first c.args.height c.if-height-eq0.false c.requires.aligned c.requires.fits in
    omega (arith, r.low)

pub overflow_mul-power : goal.overflow_mul-power
overflow_mul-power c =
    let r = mmb_raised c.args.first c.args.height c.if-height-eq0.false c.requires.aligned c.requires.fits in
    let p : c.power.result ≤ 2 ^ 62 = rw c.power.ensures (pow_le (c.args.height - 1) 62 r.low) in
    let q : 3 * c.power.result < 2 ^ 64 = omega arith in search rules

pub overflow_add-first : goal.overflow_add-first
overflow_add-first c =
    let r = mmb_raised c.args.first c.args.height c.if-height-eq0.false c.requires.aligned c.requires.fits in
    let p : c.args.first + (3 * c.power.result - 2) < 2 ^ 64 =
    omega (arith, r.room, c.power.ensures, pow_pos (c.args.height - 1)) in search rules

pub nodes_over-requires-else-height-eq0 : goal.nodes_over-requires-else-height-eq0
nodes_over-requires-else-height-eq0 c =
    let r = mmb_raised c.args.first c.args.height c.if-height-eq0.false c.requires.aligned c.requires.fits in
    rw c.power.ensures (omega (arith, r.is, c.requires.fits))

pub overflow_add-result : goal.overflow_add-result
overflow_add-result c =
    let r = mmb_raised c.args.first c.args.height c.if-height-eq0.false c.requires.aligned c.requires.fits in
    let p : c.nodes_over-else-height-eq0.result + 1 < 2 ^ 64 = rw (
      c.nodes_over-else-height-eq0.ensures,
      c.power.ensures,
    ) (omega (arith, r.is, c.requires.fits)) in search rules

pub returns-else-height-eq0 : goal.returns-else-height-eq0
returns-else-height-eq0 c =
    let r = mmb_raised c.args.first c.args.height c.if-height-eq0.false c.requires.aligned c.requires.fits in
    rw (c.nodes_over-else-height-eq0.ensures, c.power.ensures) (omega (arith, r.is))
