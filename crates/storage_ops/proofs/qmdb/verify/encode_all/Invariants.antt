use Rattle.std.proofs.Common.{◌≡◌, map, take}
use Rattle.storage_ops.proofs.qmdb.verify.encode_all.Given as goal

abbrev pub invariant-loop-operation : goal.invariant-loop-operation
invariant-loop-operation g l =
    map (λ bytes. bytes.items) l.encoded.items ≡ map g.Op.Write.text (take l.operation-index l.operations)
