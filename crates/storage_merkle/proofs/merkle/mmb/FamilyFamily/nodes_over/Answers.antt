use Rattle.std.proofs.Common.{arith, rules, ◌+◌, ◌-◌, ◌<◌, ◌^◌}
use Rattle.storage_merkle.specs.Laws.Mmb.{mmb_size_sum, mmb_log_at_most, mmb_room_above}
use Rattle.storage_merkle.proofs.merkle.mmb.FamilyFamily.nodes_over.Goals as goal

pub overflow_add-leaves : goal.overflow_add-leaves
overflow_add-leaves c = let r : c.args.leaves + 1 < 2 ^ 64 = mmb_room_above c.args.leaves c.requires in search rules

pub overflow_sub-result : goal.overflow_sub-result
overflow_sub-result c =
    omega (arith, mmb_log_at_most c.args.leaves c.ilog2.result c.ilog2.ensures.power_le c.ilog2.ensures.next_power_gt)

pub overflow_add-result : goal.overflow_add-result
overflow_add-result c = let r : c.args.leaves + (c.args.leaves - c.ilog2.result) < 2 ^ 64 =
    omega (
      arith,
      mmb_size_sum c.args.leaves c.ilog2.result c.ilog2.ensures.power_le c.ilog2.ensures.next_power_gt,
      c.requires,
    ) in search rules

pub returns : goal.returns
returns c = mmb_size_sum c.args.leaves c.ilog2.result c.ilog2.ensures.power_le c.ilog2.ensures.next_power_gt
