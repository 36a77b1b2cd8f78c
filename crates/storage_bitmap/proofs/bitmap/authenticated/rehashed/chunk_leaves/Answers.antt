use Rattle.storage_bitmap.proofs.Rehashing.{zip_start, zip_more, zip_end}
use Rattle.storage_bitmap.proofs.bitmap.authenticated.rehashed.chunk_leaves.Goals as goal

pub loop-chunk-init : goal.loop-chunk-init
loop-chunk-init g c = zip_start _ c.args.chunks.now.keys c.into_iter-chunk-iterator.result c.in_ok-leaves.leaves.items
    c.into_iter-chunk-iterator.ensures.into_iter_gives.0 c.in_ok-leaves.ensures.items

pub loop-chunk-preserved : goal.loop-chunk-preserved
loop-chunk-preserved g c =
    zip_more _ c.args.chunks.now.keys c.loop-chunk.chunk-iterator c.next.new.self c.loop-chunk.leaves.items
    c.push.new.self.items c.in-Some.chunk.now _ c.in-Some.ensures.steps c.in_ok-push.ensures.items (
      c.new.ensures,
      c.chunk_digest-digest.ensures,
    ) c.loop-chunk.invariant

pub returns : goal.returns
returns g c = zip_end _ c.args.chunks.now.keys c.loop-chunk.chunk-iterator c.loop-chunk.leaves.items
    c.in-None.ensures.steps.0 c.loop-chunk.invariant
