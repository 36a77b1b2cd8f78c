use Rattle.std.proofs.Common.{◌++◌, ◌∙◌, ap, subst}
use Rattle.storage_codec.specs.Parts.{AppendsStart, option_text}
use Rattle.storage_codec.specs.Laws.Parts.{starts_then, starts_first, starts_none}
use Rattle.storage_merkle.specs.Wire.{slot_text}
use Rattle.storage_merkle.specs.ProofWire.{proof_text}
use Rattle.storage_current.specs.Held.{range_proof_of}
use Rattle.storage_current.specs.CurrentWire.{as_is}
use Rattle.storage_current.specs.Laws.CurrentWire.{slot_bytes, option_bytes}
use Rattle.storage_current.proofs.Written.{on_err}
use Rattle.storage_current.proofs.qmdb.current.proof.codec.RangeProofWrite.write.Goals as goal

pub returns-in_err-write-clause-err : goal.returns-in_err-write-clause-err
returns-in_err-write-clause-err g c =
    let p = range_proof_of g.D.Digest.text c.args.self.now in
    on_err c.from_residual.result _ (starts_first (slot_text g.F.Graftable.has_pending as_is p.pending
    ++ (option_text as_is p.partial ++ p.ops_root)) c.in_err-write.ensures.err)

pub returns-in_err-write_pending-clause-err : goal.returns-in_err-write_pending-clause-err
returns-in_err-write_pending-clause-err g c =
    let p = range_proof_of g.D.Digest.text c.args.self.now in
    let there = g.F.Graftable.has_pending in
    let slot = slot_bytes g.D.Digest.text there c.args.self.now.pending_chunk_digest in
    on_err c.from_residual-in_err-write_pending.result _
    (starts_then (proof_text p.range)
    (slot_text there as_is p.pending ++ (option_text as_is p.partial ++ p.ops_root)) c.in_ok-write.ensures.ok
    (starts_first (option_text as_is p.partial ++ p.ops_root) (subst (λ t.
    AppendsStart c.write.new.out.items c.write_pending.new.out.items t) slot c.in_err-write_pending.ensures.err)))

pub returns-in_err-write_option-clause-err : goal.returns-in_err-write_option-clause-err
returns-in_err-write_option-clause-err g c =
    let p = range_proof_of g.D.Digest.text c.args.self.now in
    let there = g.F.Graftable.has_pending in
    let slot = slot_bytes g.D.Digest.text there c.args.self.now.pending_chunk_digest in
    let partial = option_bytes g.D.Digest.text c.args.self.now.partial_chunk_digest in
    on_err c.from_residual-in_err-write_option.result _
    (starts_then (proof_text p.range)
    (slot_text there as_is p.pending ++ (option_text as_is p.partial ++ p.ops_root)) c.in_ok-write.ensures.ok
    (starts_then (slot_text there as_is p.pending) (option_text as_is p.partial ++ p.ops_root)
    (c.in_ok-write_pending.ensures.ok ∙ ap (λ t. c.write.new.out.items ++ t) slot)
    (starts_first p.ops_root (subst (λ t.
    AppendsStart c.write_pending.new.out.items c.write_option.new.out.items t) partial c.in_err-write_option.ensures.err))))

pub returns-in_err-extend_from_slice-clause-err : goal.returns-in_err-extend_from_slice-clause-err
returns-in_err-extend_from_slice-clause-err g c =
    let p = range_proof_of g.D.Digest.text c.args.self.now in
    let there = g.F.Graftable.has_pending in
    let slot = slot_bytes g.D.Digest.text there c.args.self.now.pending_chunk_digest in
    let partial = option_bytes g.D.Digest.text c.args.self.now.partial_chunk_digest in
    on_err c.from_residual-in_err-extend_from_slice.result _
    (starts_then (proof_text p.range)
    (slot_text there as_is p.pending ++ (option_text as_is p.partial ++ p.ops_root)) c.in_ok-write.ensures.ok
    (starts_then (slot_text there as_is p.pending) (option_text as_is p.partial ++ p.ops_root)
    (c.in_ok-write_pending.ensures.ok ∙ ap (λ t. c.write.new.out.items ++ t) slot)
    (starts_then (option_text as_is p.partial) p.ops_root (c.in_ok-write_option.ensures.ok
    ∙ ap (λ t. c.write_pending.new.out.items ++ t) partial)
    (starts_none p.ops_root c.in_err-extend_from_slice.ensures.items))))
