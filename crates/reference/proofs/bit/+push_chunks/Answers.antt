use Rattle.std.proofs.Common.{arith, ◌∷◌, [], map, ap, ◌∙◌, ◌-◌, ◌+◌}
use Rattle.std.proofs.lemmas.List.{map-append}
use Rattle.reference.proofs.BitParts.{chunks_none, chunks_more}
use Rattle.reference.proofs.bit.+push_chunks.Goals as goal

pub returns-then-count-eq0 : goal.returns-then-count-eq0
returns-then-count-eq0 t c = chunks_none c.args.size c.args.bits.now c.args.count c.args.index
    (map (λ bytes. bytes.items) c.args.chunks.now.items) c.if-count-eq0.true

pub returns : goal.returns
returns t c = chunks_more c.args.size c.args.bits.now (c.args.count - 1) c.args.count c.args.index (c.args.index + 1)
    (map (λ bytes. bytes.items) c.args.chunks.now.items) (map (λ bytes. bytes.items) c.push.new.self.items) _
    c.in_ok-chunk.field-0.items (omega arith) (omega arith) c.in_ok-chunk.ensures
    (ap (map (λ bytes. bytes.items)) c.in_ok-push.ensures.items
    ∙ map-append (λ bytes. bytes.items) c.args.chunks.now.items (c.in_ok-chunk.field-0 ∷ []))
    c.in_ok-push_chunks.ensures
