use Rattle.std.proofs.Common.{arith}
use Rattle.storage_codec.specs.Codec.{front_at}
use Rattle.storage_codec.specs.Laws.Parts.{ends_then}
use Rattle.storage_sync.proofs.Lists.{reading_next, reading_stops}
use Rattle.storage_sync.proofs.sync.lists.read_bytes.Goals as goal

pub returns-in-Err-clause-gives : goal.returns-in-Err-clause-gives
returns-in-Err-clause-gives g c = reading_stops (front_at c.args.chunk_size) c.in-Err.error c.args.count c.loop-index.index _
    c.loop-index.chunks.items _ (omega arith) c.loop-index.invariant.read c.in-Err.ensures.gives

pub returns-in-Err-clause-ends : goal.returns-in-Err-clause-ends
returns-in-Err-clause-ends g c = ends_then c.loop-index.invariant.ends c.cut.ensures.ends

pub returns-in_err-push-clause-ends : goal.returns-in_err-push-clause-ends
returns-in_err-push-clause-ends g c = ends_then c.loop-index.invariant.ends c.cut.ensures.ends

pub loop-index-preserved : goal.loop-index-preserved
loop-index-preserved g c = record {
  read =
      reading_next (front_at c.args.chunk_size) c.args.count c.loop-index.index _ c.loop-index.chunks.items c.push.new.self.items
      c.in-Ok.chunk _ _ (omega arith) c.loop-index.invariant.read c.in-Ok.ensures.gives c.in_ok-push.ensures.items;
  ends = ends_then c.loop-index.invariant.ends c.cut.ensures.ends;
}
