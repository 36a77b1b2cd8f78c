use Rattle.std.proofs.Common.{length, map}
use Rattle.storage_merkle.specs.ProofWire.{joined_text}
use Rattle.storage_merkle.proofs.Written.{Writing}
use Rattle.storage_merkle.proofs.merkle.proof.codec.write_digests.Given as goal

abbrev pub invariant-loop-digest : goal.invariant-loop-digest
invariant-loop-digest g l = Writing l.fn.out.items l.out.items (joined_text (map g.D.Digest.text l.digests))
    (joined_text (map g.D.Digest.text l.left))

abbrev pub decreases-loop-digest : goal.decreases-loop-digest
decreases-loop-digest g l = length l.left
