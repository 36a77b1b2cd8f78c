use Rattle.std.proofs.Common.{◌≡◌, ◌+◌, length, drop}
use Rattle.storage_merkle.specs.Kept.{paired, pins}
use Rattle.storage_current.proofs.qmdb.current.grafting.tree.pin_at.Given as goal

abbrev pub invariant-loop-at : goal.invariant-loop-at
invariant-loop-at g l = record {
  whole : l.index + length l.left ≡ length l.pinned;
  same : paired l.place (pins g.F.Family.shape l.fn.pruned) l.pinned
      ≡ paired l.place l.left (drop l.index l.pinned);
}

abbrev pub decreases-loop-at : goal.decreases-loop-at
decreases-loop-at g l = length l.left
