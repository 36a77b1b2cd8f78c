use Rattle.reference.proofs.Chunks.{chunk_from}
use Rattle.reference.proofs.chunk.chunk.Goals as goal

pub returns : goal.returns
returns c = chunk_from c.args.size c.args.index c.args.bits.now c.skipped.result.now _ _ c.new-bytes.ensures.items
    c.skipped.ensures c.in_ok-push_bytes.ensures
