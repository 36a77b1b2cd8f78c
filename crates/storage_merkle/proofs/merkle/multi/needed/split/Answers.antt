use Rattle.std.proofs.Common.{rules, of_calls, ltb}
use Rattle.std.proofs.lemmas.List.Sorted.{IsPartitionedBy-ltb, IsPartitionPoint-from_clause}
use Rattle.storage_merkle.proofs.Multi.Claims.{non_decreasing, parts_ascend}
use Rattle.storage_merkle.proofs.merkle.multi.needed.split.Goals as goal

pub returns-clause-parts : goal.returns-clause-parts
returns-clause-parts g c = λ first end up le.
    let place = g.L.Located.place in
    rw (c.split_at.ensures.front, c.split_at.ensures.back)
    (parts_ascend place c.args.items.now c.partition_point.result c.args.middle first end
    c.partition_point.ensures.bound
    (IsPartitionPoint-from_clause (λ y. ltb (place y) c.args.middle) c.args.items.now c.partition_point.result
    c.partition_point.ensures.partitioned (IsPartitionedBy-ltb place c.args.items.now c.args.middle
    (non_decreasing place first end c.args.items.now up)) (λ a r f k. search (rules, of_calls))) up)
