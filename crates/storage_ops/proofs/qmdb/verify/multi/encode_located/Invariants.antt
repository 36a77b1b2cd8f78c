use Rattle.std.proofs.Common.{◌≡◌, take}
use Rattle.storage_merkle.specs.Multi.{claims_of}
use Rattle.storage_ops.specs.Located.{claims_at}
use Rattle.storage_ops.proofs.qmdb.verify.multi.encode_located.Given as goal

abbrev pub invariant-loop-location : goal.invariant-loop-location
invariant-loop-location g l =
    claims_of (λ bytes. bytes.items) l.encoded.items ≡ claims_at g.Op.Write.text (take l.location-index l.operations)
