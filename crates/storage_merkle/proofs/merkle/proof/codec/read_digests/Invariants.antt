use Rattle.std.proofs.Common.{◌≡◌, ◌-◌, map}
use Rattle.storage_codec.specs.Parts.{IsEnding}
use Rattle.storage_merkle.specs.ProofWire.{digests_at}
use Rattle.storage_merkle.proofs.Written.{after}
use Rattle.storage_merkle.proofs.merkle.proof.codec.read_digests.Given as goal

abbrev pub invariant-loop-index : goal.invariant-loop-index
invariant-loop-index g l = record {
  read : digests_at g.D.Digest.size l.count (g.B.Buf.unread l.initial.buf) ≡ after
      (map g.D.Digest.text l.digests.items) (digests_at g.D.Digest.size (l.count - l.index) (g.B.Buf.unread l.buf));
  ends : IsEnding (g.B.Buf.unread l.initial.buf) (g.B.Buf.unread l.buf);
}
