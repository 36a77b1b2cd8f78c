use Rattle.std.proofs.Common.{append_assoc}
use Rattle.storage_ops.proofs.qmdb.any.operation.update.unordered.UpdateUpdateTrait.fmt.Goals as goal

pub returns : goal.returns
returns g c = λ plain ok.
    let key = rw c.bytes.ensures at c.in_ok-key.ensures in
    let value = c.in_ok-value.ensures in
    let w = c.write.ensures.writes plain ok in
    let written = rw (key, value) at w in
    simp append_assoc written
