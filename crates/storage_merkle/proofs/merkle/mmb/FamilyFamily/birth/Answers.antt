use Rattle.std.proofs.Common.{arith, ◌≤◌, ◌-◌, rules}
use Rattle.storage_merkle.specs.Laws.Mmb.{mmb_birth_low}
use Rattle.storage_merkle.proofs.merkle.mmb.FamilyFamily.birth.Goals as goal

pub power-requires : goal.power-requires
power-requires c = let h : c.args.height - 1 ≤ 62 =
    mmb_birth_low c.args.first c.args.height c.if-height-eq0.false c.requires in omega arith

pub returns-else-height-eq0 : goal.returns-else-height-eq0
returns-else-height-eq0 c = search rules
