use Rattle.std.proofs.Common.{arith, rules, ◌+◌, ◌-◌, ◌<◌, ◌^◌}
use lib.Count.{ones}
use Rattle.storage_merkle.specs.Laws.Mmr.{mmr_size_sum}
use Rattle.storage_merkle.proofs.merkle.mmr.FamilyFamily.nodes_over.Goals as goal

pub overflow_add-result : goal.overflow_add-result
overflow_add-result c = let r : c.args.leaves + (c.args.leaves - ones c.args.leaves) < 2 ^ 64 =
    omega (arith, mmr_size_sum c.args.leaves, c.requires) in search rules

pub returns : goal.returns
returns c = mmr_size_sum c.args.leaves
