use Rattle.std.proofs.Common.{arith, rules, ◌≤◌}
use Rattle.storage_merkle.specs.Laws.Mmr.{mmr_offset, mmr_after}
use Rattle.storage_merkle.proofs.merkle.mmr.FamilyFamily.node_after.Goals as goal

pub overflow_cast-height : goal.overflow_cast-height
overflow_cast-height c = let k : c.args.offset ≤ 62 =
    mmr_offset c.args.leaves c.args.offset c.requires.few c.requires.within in search rules

pub power-requires : goal.power-requires
power-requires c = let k : c.args.offset ≤ 62 =
    mmr_offset c.args.leaves c.args.offset c.requires.few c.requires.within in omega arith

pub overflow_sub-result : goal.overflow_sub-result
overflow_sub-result c = let a = mmr_after c.args.leaves c.args.offset c.requires.within in omega (arith, a.fits)

pub returns : goal.returns
returns c = let a = mmr_after c.args.leaves c.args.offset c.requires.within in
    rw c.power.ensures (record { aligned = a.aligned; at = a.at })
