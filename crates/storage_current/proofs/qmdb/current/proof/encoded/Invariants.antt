use Rattle.std.proofs.Common.{◌≡◌, length, map, take}
use Rattle.storage_current.proofs.qmdb.current.proof.encoded.Given as goal

abbrev pub invariant-loop-operation : goal.invariant-loop-operation
invariant-loop-operation g l =
    (map (λ e. e.items) l.elements.items ≡ map g.O.Write.text (take l.operation-index l.operations))
    × (length l.elements.items ≡ l.operation-index)
