use Rattle.std.proofs.Common.{◌∷◌, [], map, ap, ◌∙◌, rules}
use Rattle.std.proofs.lemmas.List.{map-append}
use Rattle.reference.proofs.BitParts.{own_aligned, own_unaligned}
use Rattle.reference.proofs.bit.own_bit_digests.Goals as goal

pub returns-then-length-bits_per_chunk-eq0 : goal.returns-then-length-bits_per_chunk-eq0
returns-then-length-bits_per_chunk-eq0 g c =
    let text = g.H.Digest.Digest.text in
    own_aligned g.H.Hasher.hash_of c.args.bagging c.args.size c.args.bits.now c.bits_per_chunk.result c.bits_per_chunk-2.result
    c.args.place (map (λ bytes. bytes.items) c.deref.result.now) (map text c.in_ok-proof.proof.digests.items)
    c.bits_per_chunk.ensures.value c.bits_per_chunk-2.ensures.value c.if-place-length.false c.if-length-bits_per_chunk-eq0.true
    (ap (map (λ bytes. bytes.items)) c.deref.ensures.value ∙ c.in_ok-chunks.ensures)
    (ap (λ proof. proof.digests) c.in_ok-proof.ensures)

pub returns : goal.returns
returns g c =
    let text = g.H.Digest.Digest.text in
    own_unaligned g.H.Hasher.hash_of c.args.bagging c.args.size c.args.bits.now c.bits_per_chunk.result c.bits_per_chunk-2.result
    c.args.place (map (λ bytes. bytes.items) c.deref.result.now) (map text c.in_ok-proof.proof.digests.items)
    c.bits_per_chunk.ensures.value c.bits_per_chunk-2.ensures.value c.if-place-length.false c.if-length-bits_per_chunk-eq0.false
    (ap (map (λ bytes. bytes.items)) c.deref.ensures.value ∙ c.in_ok-chunks.ensures)
    (ap (λ proof. proof.digests) c.in_ok-proof.ensures) (map text c.push-2.new.self.items)
    (text c.in_ok-partial_digest.field-0) c.in_ok-partial_digest.ensures
    (ap (map text) c.in_ok-push-2.ensures.items
    ∙ map-append text c.in_ok-proof.proof.digests.items (c.in_ok-partial_digest.field-0 ∷ []))

pub returns-then-place-length : goal.returns-then-place-length
returns-then-place-length g c = search rules
