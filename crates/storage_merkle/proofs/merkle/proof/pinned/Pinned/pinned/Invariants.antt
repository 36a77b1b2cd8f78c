use Rattle.std.proofs.Common.{length, map}
use Rattle.storage_merkle.proofs.Pinned.Nodes.{Goes}
use Rattle.storage_merkle.proofs.merkle.proof.pinned.Pinned.pinned.Given as goal

abbrev pub invariant-loop-digest : goal.invariant-loop-digest
invariant-loop-digest g l = Goes g.F.Family.shape l.first l.height l.self.start
    (map g.D.Digest.text l.self.digests.now) l.place (map g.D.Digest.text l.left)

abbrev pub decreases-loop-digest : goal.decreases-loop-digest
decreases-loop-digest g l = length l.left
