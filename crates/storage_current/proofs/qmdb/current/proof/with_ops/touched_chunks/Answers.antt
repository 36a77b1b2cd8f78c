use Rattle.std.proofs.Common.{◌≡◌, ◌∙◌, ◌+◌, ◌-◌, ◌/◌, ◌^◌, arith}
use Rattle.storage_current.proofs.Serving.{same_power, chunks_none, chunks_pushed, touched_within, touched_order, touched_all}
use Rattle.storage_current.proofs.qmdb.current.proof.with_ops.touched_chunks.Goals as goal

pub loop-index-init : goal.loop-index-init
loop-index-init g c =
    let status = g.R.Readable.retained c.args.status.now in
    let first = c.args.start / 2 ^ c.height-height.result in
    chunks_none g.row.N status.bits first (first - status.pruned) c.new-chunks.result.items c.new-chunks.ensures.items

pub get_chunk-requires : goal.get_chunk-requires
get_chunk-requires g c =
    let status = g.R.Readable.retained c.args.status.now in
    let kept = c.requires.kept c.height-height.result c.height-height.ensures.power in
    let after = c.loop-index.auto.index in (
      omega (arith, c.requires.size.1),
      (
        omega (arith, kept, after),
        touched_within g.row.N c.height-height.result c.loop-index.index c.args.end _ c.height-height.ensures.power
            (let some = c.requires.some in omega (arith, some)) c.loop-index-test.true c.requires.within,
      ),
    )

pub loop-index-preserved : goal.loop-index-preserved
loop-index-preserved g c =
    let status = g.R.Readable.retained c.args.status.now in
    let first = c.args.start / 2 ^ c.height-height.result in
    let kept = c.requires.kept c.height-height.result c.height-height.ensures.power in
    c.in_ok-push.ensures.items
    ∙ chunks_pushed g.row.N status.bits status.pruned first c.loop-index.index c.loop-index.chunks.items
    c.get_chunk.result kept c.loop-index.auto.index c.loop-index.invariant c.get_chunk.ensures

pub returns : goal.returns
returns g c = λ h power.
    let status = g.R.Readable.retained c.args.status.now in
    let k = c.height-height.result in
    let order = touched_order k c.args.start c.args.end c.requires.some in
    let at : c.loop-index.index ≡ (c.args.end - 1) / 2 ^ k + 1 = (let a =
    c.loop-index.auto.index-end (omega (arith, order)) in let b = c.loop-index-test.false in omega (arith, a, b)) in
    touched_all g.row.N status.bits status.pruned c.args.start c.args.end h k c.loop-index.index
    c.loop-index.chunks.items
    (same_power _ k h c.height-height.ensures.power power) c.requires.some at c.loop-index.invariant
