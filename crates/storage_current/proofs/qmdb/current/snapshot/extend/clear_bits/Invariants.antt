use Rattle.std.proofs.Common.{◌≡◌, ◌*◌, take}
use Rattle.storage_current.specs.Extended.{cleared_from}
use Rattle.storage_current.proofs.qmdb.current.snapshot.extend.clear_bits.Given as goal

abbrev pub invariant-loop-location : goal.invariant-loop-location
invariant-loop-location g l = record {
  pruned : l.status.pruned ≡ l.fn.status.pruned;
  bits : l.status.bits ≡ cleared_from (l.fn.status.pruned * (8 * g.row.N)) (take l.location-index l.locations) l.fn.status.bits;
}
