use Rattle.std.proofs.Common.{◌≡◌, ◌+◌, length, drop}
use Rattle.storage_merkle.specs.Kept.{paired, pins}
use Rattle.storage_merkle.proofs.merkle.mem.nodes.node_at_position.Given as goal

abbrev pub invariant-loop-at : goal.invariant-loop-at
invariant-loop-at g l = record {
  whole : l.index + length l.left ≡ length l.pinned;
  same : paired l.position (pins g.F.Family.shape l.boundary) l.pinned
      ≡ paired l.position l.left (drop l.index l.pinned);
}

abbrev pub decreases-loop-at : goal.decreases-loop-at
decreases-loop-at g l = length l.left
