use Rattle.std.proofs.Common.{◌≡◌, ◌∙◌, map, length, ap}
use Rattle.storage_codec.specs.Parts.{size_of, vector_text}
use Rattle.storage_current.specs.CurrentWire.{as_is, range_proof_text}
use Rattle.storage_sync.specs.Held.{page_of}
use Rattle.storage_sync.specs.Messages.{list_text}
use Rattle.storage_sync.proofs.Lists.{three_lengths}
use Rattle.storage_sync.proofs.sync.page.codec.PageEncodeSize.encode_size.Goals as goal

pub returns : goal.returns
returns g c =
    let p = page_of g.D.Digest.text c.args.self.now in
    let strings : c.strings_size.result ≡ size_of (length (list_text vector_text p.operations)) = c.strings_size.ensures
    ∙ ap (λ xs. size_of (length (list_text vector_text (map (λ s. s.items) xs)))) c.deref.ensures.value in
    let chunks : c.chunks_size.result ≡ size_of (length (list_text as_is p.chunks)) = c.chunks_size.ensures
    ∙ ap (λ xs. size_of (length (list_text as_is xs))) c.deref-2.ensures.value in
    c.sum.ensures _ _ c.encode_size.ensures (c.sum-lists.ensures _ _ strings chunks)
    ∙ ap size_of (three_lengths (range_proof_text g.F.Graftable.has_pending p.proof) (list_text vector_text p.operations)
    (list_text as_is p.chunks))
