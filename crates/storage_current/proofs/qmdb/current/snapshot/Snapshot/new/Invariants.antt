use Rattle.std.proofs.Common.{map, take}
use Rattle.storage_current.specs.NodeLists.{IsTreeOver}
use Rattle.storage_current.proofs.qmdb.current.snapshot.Snapshot.new.Given as goal

abbrev pub invariant-loop-operation : goal.invariant-loop-operation
invariant-loop-operation g l =
    IsTreeOver g.H.Hasher.hash_of g.F.Family.shape l.tree (take l.operation-index (map g.E.AsSlice.items l.operations))
