use Rattle.std.proofs.Common.{arith, ◌≡◌, suc, ◌-◌}
use Rattle.reference.proofs.Chunks.{bytes_none, bytes_more}
use Rattle.reference.proofs.chunk.+push_bytes.Goals as goal

pub returns-then-count-eq0 : goal.returns-then-count-eq0
returns-then-count-eq0 t c = bytes_none c.args.count c.args.bits.now c.args.bytes.now.items c.if-count-eq0.true

pub returns : goal.returns
returns t c =
    let s : c.args.count ≡ suc (c.args.count - 1) = omega arith in
    bytes_more (c.args.count - 1) c.args.count c.number_of.result c.args.bits.now c.skipped.result.now _ _ _ s
    c.number_of.ensures.value c.in_ok-push.ensures.items c.skipped.ensures c.in_ok-push_bytes.ensures
