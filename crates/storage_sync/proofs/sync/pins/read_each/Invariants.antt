use Rattle.std.proofs.Common.{◌≡◌, ◌-◌, map}
use Rattle.storage_codec.specs.Codec.{front_at}
use Rattle.storage_codec.specs.Parts.{IsEnding}
use Rattle.storage_sync.specs.Messages.{items_at}
use Rattle.storage_sync.proofs.Lists.{following}
use Rattle.storage_sync.proofs.sync.pins.read_each.Given as goal

abbrev pub invariant-loop-index : goal.invariant-loop-index
invariant-loop-index g l = record {
  read : items_at (front_at g.D.Digest.size) l.count (g.B.Buf.unread l.initial.buf)
      ≡ following (front_at g.D.Digest.size) (map g.D.Digest.text l.pins.items)
      (items_at (front_at g.D.Digest.size) (l.count - l.index) (g.B.Buf.unread l.buf));
  ends : IsEnding (g.B.Buf.unread l.initial.buf) (g.B.Buf.unread l.buf);
}
