use Rattle.std.proofs.Common.{◌≡◌, ◌-◌}
use Rattle.storage_codec.specs.Parts.{IsEnding}
use Rattle.storage_codec.specs.Padding.{zeros_at}
use Rattle.storage_codec.proofs.codec.util.ensure_zeros.Given as goal

abbrev pub invariant-loop : goal.invariant-loop
invariant-loop g l = record {
  gives : zeros_at (l.n - l.counter) (g.B.Buf.unread l.buf) ≡ zeros_at l.n (g.B.Buf.unread l.fn.buf);
  ends : IsEnding (g.B.Buf.unread l.fn.buf) (g.B.Buf.unread l.buf);
}
