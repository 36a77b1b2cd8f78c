use Rattle.std.proofs.Common.{◌++◌, ◌∙◌, map, ap, subst}
use Rattle.storage_codec.specs.Parts.{AppendsStart, vector_text}
use Rattle.storage_codec.specs.Laws.Parts.{starts_then, starts_first}
use Rattle.storage_current.specs.CurrentWire.{as_is, range_proof_text}
use Rattle.storage_sync.specs.Held.{page_of}
use Rattle.storage_sync.specs.Messages.{list_text}
use Rattle.storage_sync.proofs.Lists.{on_err}
use Rattle.storage_sync.proofs.sync.page.codec.PageWrite.write.Goals as goal

pub returns-in_err-write-clause-err : goal.returns-in_err-write-clause-err
returns-in_err-write-clause-err g c =
    let p = page_of g.D.Digest.text c.args.self.now in
    on_err c.from_residual.result _
    (starts_first (list_text vector_text p.operations ++ list_text as_is p.chunks) c.in_err-write.ensures.err)

pub returns-in_err-write_strings-clause-err : goal.returns-in_err-write_strings-clause-err
returns-in_err-write_strings-clause-err g c =
    let p = page_of g.D.Digest.text c.args.self.now in
    on_err c.from_residual-in_err-write_strings.result _
    (starts_then (range_proof_text g.F.Graftable.has_pending p.proof)
    (list_text vector_text p.operations ++ list_text as_is p.chunks) c.in_ok-write.ensures.ok
    (starts_first (list_text as_is p.chunks) (subst (λ xs. AppendsStart c.write.new.out.items c.write_strings.new.out.items
    (list_text vector_text (map (λ s. s.items) xs))) c.deref.ensures.value c.in_err-write_strings.ensures.err)))

pub returns-in_err-write_chunks-clause-err : goal.returns-in_err-write_chunks-clause-err
returns-in_err-write_chunks-clause-err g c =
    let p = page_of g.D.Digest.text c.args.self.now in
    on_err c.from_residual-in_err-write_chunks.result _
    (starts_then (range_proof_text g.F.Graftable.has_pending p.proof)
    (list_text vector_text p.operations ++ list_text as_is p.chunks) c.in_ok-write.ensures.ok
    (starts_then (list_text vector_text p.operations) (list_text as_is p.chunks)
    (c.in_ok-write_strings.ensures.ok
    ∙ ap (λ xs. c.write.new.out.items ++ list_text vector_text (map (λ s. s.items) xs)) c.deref.ensures.value)
    (subst (λ xs. AppendsStart c.write_strings.new.out.items c.write_chunks.new.out.items (list_text as_is xs))
    c.deref-2.ensures.value c.in_err-write_chunks.ensures.err)))
