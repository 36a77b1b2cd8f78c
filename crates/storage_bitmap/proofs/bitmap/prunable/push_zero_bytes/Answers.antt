use Rattle.std.proofs.Common.{arith}
use Rattle.storage_bitmap.proofs.Bits.{resized}
use Rattle.storage_bitmap.proofs.bitmap.prunable.push_zero_bytes.Goals as goal

pub returns-clause-ok : goal.returns-clause-ok
returns-clause-ok c =
    resized c.args.more c.len-count.result c.args.bytes.now.len c.args.bytes.now.items c.resize.new.self.items
    (omega (arith, c.len-count.ensures)) (omega (arith, c.args.bytes.now.ok)) c.in_ok-resize.ensures.items
