use Rattle.std.proofs.Common.{◌≡◌, ◌-◌, map}
use Rattle.storage_codec.specs.Codec.{vector_at}
use Rattle.storage_codec.specs.Parts.{IsEnding}
use Rattle.storage_sync.specs.Messages.{items_at}
use Rattle.storage_sync.proofs.Lists.{following}
use Rattle.storage_sync.proofs.sync.lists.read_each.Given as goal

abbrev pub invariant-loop-index : goal.invariant-loop-index
invariant-loop-index g l = record {
  read : items_at (vector_at 0 l.max_len) l.count (g.B.Buf.unread l.initial.buf)
      ≡ following (vector_at 0 l.max_len) (map (λ s. s.items) l.strings.items)
      (items_at (vector_at 0 l.max_len) (l.count - l.index) (g.B.Buf.unread l.buf));
  ends : IsEnding (g.B.Buf.unread l.initial.buf) (g.B.Buf.unread l.buf);
}
