use Rattle.std.proofs.Common.{◌++◌, ◌∙◌, map, ap, subst}
use Rattle.storage_codec.specs.Parts.{AppendsStart, varint_text, vector_text}
use Rattle.storage_codec.specs.Laws.Parts.{starts_then, starts_first, starts_none}
use Rattle.storage_merkle.specs.ProofWire.{proof_text}
use Rattle.storage_current.specs.CurrentWire.{as_is}
use Rattle.storage_current.specs.WitnessWire.{witness_text}
use Rattle.storage_sync.specs.Held.{opening_of}
use Rattle.storage_sync.specs.Messages.{list_text}
use Rattle.storage_sync.proofs.Lists.{on_err}
use Rattle.storage_sync.proofs.sync.opening.codec.OpeningWrite.write.Goals as goal

pub returns-in_err-write-2-clause-err : goal.returns-in_err-write-2-clause-err
returns-in_err-write-2-clause-err g c =
    let o = opening_of g.D.Digest.text c.args.self.now in
    let there = g.F.Graftable.has_pending in
    let lists = list_text vector_text o.operations ++ (list_text as_is o.pins ++ list_text as_is o.over_chunks) in
    on_err c.from_residual-in_err-write-2.result _
    (starts_then (varint_text o.begin) (witness_text there o.witness ++ (o.ops_root ++ (proof_text o.proof ++ lists)))
    c.in_ok-write.ensures.ok (starts_first (o.ops_root ++ (proof_text o.proof ++ lists)) c.in_err-write-2.ensures.err))

pub returns-in_err-extend_from_slice-clause-err : goal.returns-in_err-extend_from_slice-clause-err
returns-in_err-extend_from_slice-clause-err g c =
    let o = opening_of g.D.Digest.text c.args.self.now in
    let there = g.F.Graftable.has_pending in
    let lists = list_text vector_text o.operations ++ (list_text as_is o.pins ++ list_text as_is o.over_chunks) in
    on_err c.from_residual-in_err-extend_from_slice.result _
    (starts_then (varint_text o.begin) (witness_text there o.witness ++ (o.ops_root ++ (proof_text o.proof ++ lists)))
    c.in_ok-write.ensures.ok
    (starts_then (witness_text there o.witness) (o.ops_root ++ (proof_text o.proof ++ lists)) c.in_ok-write-2.ensures.ok
    (starts_none (o.ops_root ++ (proof_text o.proof ++ lists)) c.in_err-extend_from_slice.ensures.items)))

pub returns-in_err-write-3-clause-err : goal.returns-in_err-write-3-clause-err
returns-in_err-write-3-clause-err g c =
    let o = opening_of g.D.Digest.text c.args.self.now in
    let there = g.F.Graftable.has_pending in
    let lists = list_text vector_text o.operations ++ (list_text as_is o.pins ++ list_text as_is o.over_chunks) in
    on_err c.from_residual-in_err-write-3.result _
    (starts_then (varint_text o.begin) (witness_text there o.witness ++ (o.ops_root ++ (proof_text o.proof ++ lists)))
    c.in_ok-write.ensures.ok
    (starts_then (witness_text there o.witness) (o.ops_root ++ (proof_text o.proof ++ lists)) c.in_ok-write-2.ensures.ok
    (starts_then o.ops_root (proof_text o.proof ++ lists)
    (c.in_ok-extend_from_slice.ensures.items ∙ ap (λ t. c.write-2.new.out.items ++ t) c.bytes.ensures)
    (starts_first lists c.in_err-write-3.ensures.err))))

pub returns-in_err-write_strings-clause-err : goal.returns-in_err-write_strings-clause-err
returns-in_err-write_strings-clause-err g c =
    let o = opening_of g.D.Digest.text c.args.self.now in
    let there = g.F.Graftable.has_pending in
    let pins = list_text as_is o.pins ++ list_text as_is o.over_chunks in
    let lists = list_text vector_text o.operations ++ pins in
    on_err c.from_residual-in_err-write_strings.result _
    (starts_then (varint_text o.begin) (witness_text there o.witness ++ (o.ops_root ++ (proof_text o.proof ++ lists)))
    c.in_ok-write.ensures.ok
    (starts_then (witness_text there o.witness) (o.ops_root ++ (proof_text o.proof ++ lists)) c.in_ok-write-2.ensures.ok
    (starts_then o.ops_root (proof_text o.proof ++ lists)
    (c.in_ok-extend_from_slice.ensures.items ∙ ap (λ t. c.write-2.new.out.items ++ t) c.bytes.ensures)
    (starts_then (proof_text o.proof) lists c.in_ok-write-3.ensures.ok
    (starts_first pins (subst (λ xs. AppendsStart c.write-3.new.out.items c.write_strings.new.out.items
    (list_text vector_text (map (λ s. s.items) xs))) c.deref.ensures.value c.in_err-write_strings.ensures.err))))))

pub returns-in_err-write_pins-clause-err : goal.returns-in_err-write_pins-clause-err
returns-in_err-write_pins-clause-err g c =
    let o = opening_of g.D.Digest.text c.args.self.now in
    let text = g.D.Digest.text in
    let there = g.F.Graftable.has_pending in
    let over = list_text as_is o.over_chunks in
    let pins = list_text as_is o.pins ++ over in
    let lists = list_text vector_text o.operations ++ pins in
    on_err c.from_residual-in_err-write_pins.result _
    (starts_then (varint_text o.begin) (witness_text there o.witness ++ (o.ops_root ++ (proof_text o.proof ++ lists)))
    c.in_ok-write.ensures.ok
    (starts_then (witness_text there o.witness) (o.ops_root ++ (proof_text o.proof ++ lists)) c.in_ok-write-2.ensures.ok
    (starts_then o.ops_root (proof_text o.proof ++ lists)
    (c.in_ok-extend_from_slice.ensures.items ∙ ap (λ t. c.write-2.new.out.items ++ t) c.bytes.ensures)
    (starts_then (proof_text o.proof) lists c.in_ok-write-3.ensures.ok
    (starts_then (list_text vector_text o.operations) pins (c.in_ok-write_strings.ensures.ok
    ∙ ap (λ xs. c.write-3.new.out.items ++ list_text vector_text (map (λ s. s.items) xs)) c.deref.ensures.value)
    (starts_first over (subst (λ xs. AppendsStart c.write_strings.new.out.items c.write_pins.new.out.items
    (list_text as_is (map text xs))) c.deref-2.ensures.value c.in_err-write_pins.ensures.err)))))))

pub returns-in_err-write_pins-2-clause-err : goal.returns-in_err-write_pins-2-clause-err
returns-in_err-write_pins-2-clause-err g c =
    let o = opening_of g.D.Digest.text c.args.self.now in
    let text = g.D.Digest.text in
    let there = g.F.Graftable.has_pending in
    let over = list_text as_is o.over_chunks in
    let pins = list_text as_is o.pins ++ over in
    let lists = list_text vector_text o.operations ++ pins in
    on_err c.from_residual-in_err-write_pins-2.result _
    (starts_then (varint_text o.begin) (witness_text there o.witness ++ (o.ops_root ++ (proof_text o.proof ++ lists)))
    c.in_ok-write.ensures.ok
    (starts_then (witness_text there o.witness) (o.ops_root ++ (proof_text o.proof ++ lists)) c.in_ok-write-2.ensures.ok
    (starts_then o.ops_root (proof_text o.proof ++ lists)
    (c.in_ok-extend_from_slice.ensures.items ∙ ap (λ t. c.write-2.new.out.items ++ t) c.bytes.ensures)
    (starts_then (proof_text o.proof) lists c.in_ok-write-3.ensures.ok
    (starts_then (list_text vector_text o.operations) pins (c.in_ok-write_strings.ensures.ok
    ∙ ap (λ xs. c.write-3.new.out.items ++ list_text vector_text (map (λ s. s.items) xs)) c.deref.ensures.value)
    (starts_then (list_text as_is o.pins) over (c.in_ok-write_pins.ensures.ok
    ∙ ap (λ xs. c.write_strings.new.out.items ++ list_text as_is (map text xs)) c.deref-2.ensures.value)
    (subst (λ xs. AppendsStart c.write_pins.new.out.items c.write_pins-2.new.out.items (list_text as_is (map text xs)))
    c.deref-3.ensures.value c.in_err-write_pins-2.ensures.err)))))))
