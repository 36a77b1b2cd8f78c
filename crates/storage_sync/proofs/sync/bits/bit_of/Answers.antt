use Rattle.std.proofs.Common.{◌*◌, ◌/◌, ◌%◌}
use Rattle.storage_sync.proofs.Bits.{past_chunks}
use Rattle.storage_sync.proofs.sync.bits.bit_of.Goals as goal

pub returns-then-chunk-chunks : goal.returns-then-chunk-chunks
returns-then-chunk-chunks c = past_chunks c.args.chunks.now (c.args.index / (8 * c.args.chunk_size))
    (c.args.index % (8 * c.args.chunk_size)) c.if-chunk-chunks.true
