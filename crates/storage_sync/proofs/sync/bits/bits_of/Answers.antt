use Rattle.storage_sync.proofs.States.{bits_next}
use Rattle.storage_sync.proofs.sync.bits.bits_of.Goals as goal

pub loop-index-preserved : goal.loop-index-preserved
loop-index-preserved c = bits_next c.args.chunk_size c.loop-index.index c.args.chunks.now c.loop-index.bits.items c.push.new.self.items
    c.bit_of.result c.loop-index.invariant c.bit_of.ensures c.in_ok-push.ensures.items
