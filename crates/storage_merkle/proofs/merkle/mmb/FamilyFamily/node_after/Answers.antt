use Rattle.std.proofs.Common.{arith, rules, ◌≤◌, ◌+◌, ◌*◌, ◌^◌}
use Rattle.storage_merkle.specs.Laws.Mmb.{mmb_offset}
use Rattle.storage_merkle.proofs.merkle.mmb.FamilyFamily.node_after.Goals as goal

pub power-requires : goal.power-requires
power-requires c = let a =
    mmb_offset c.args.leaves c.args.offset c.requires.few c.if-offset-eq0.false c.requires.within in omega (arith, a.1)

pub overflow_mul-result : goal.overflow_mul-result
overflow_mul-result c = let a =
    mmb_offset c.args.leaves c.args.offset c.requires.few c.if-offset-eq0.false c.requires.within in
    let b : 3 * c.power.result ≤ 2 ^ 62 + 2 =
    rw c.power.ensures (omega (arith, a.2.fits, c.requires.few)) in search rules

pub overflow_sub-result : goal.overflow_sub-result
overflow_sub-result c = let a =
    mmb_offset c.args.leaves c.args.offset c.requires.few c.if-offset-eq0.false c.requires.within in
    rw c.power.ensures a.2.fits

pub returns-else-offset-eq0 : goal.returns-else-offset-eq0
returns-else-offset-eq0 c = let a =
    mmb_offset c.args.leaves c.args.offset c.requires.few c.if-offset-eq0.false c.requires.within in
    rw (c.power.ensures, a.0) (record { aligned = a.2.aligned; at = a.2.at })
