use Rattle.std.proofs.Common.{◌++◌, ◌∙◌, ap, subst, arith}
use Rattle.storage_codec.specs.Parts.{AppendsStart, option_text}
use Rattle.storage_codec.specs.Laws.Parts.{starts_then, starts_first, starts_none}
use Rattle.storage_merkle.specs.Wire.{slot_text}
use Rattle.storage_current.specs.CurrentWire.{as_is}
use Rattle.storage_current.specs.Laws.CurrentWire.{slot_bytes}
use Rattle.storage_current.specs.WitnessWire.{counted_text, witness_of}
use Rattle.storage_current.proofs.WitnessWritten.{held_same}
use Rattle.storage_current.proofs.Written.{on_err, on_err_to}
use Rattle.std.proofs.lemmas.Grind.{common_steps}
use Rattle.storage_current.proofs.qmdb.current.proof.witness.codec.OpsRootWitnessWrite.write.Goals as goal

pub returns-in_err-extend_from_slice-clause-err : goal.returns-in_err-extend_from_slice-clause-err
returns-in_err-extend_from_slice-clause-err g c =
    on_err c.from_residual.result _ (starts_none _ c.in_err-extend_from_slice.ensures.items)

pub returns-in_err-write_pending-clause-err : goal.returns-in_err-write_pending-clause-err
returns-in_err-write_pending-clause-err g c =
    let w = witness_of g.D.Digest.text c.args.self.now in
    let there = g.F.Graftable.has_pending in
    let slot = slot_bytes g.D.Digest.text there c.args.self.now.pending_chunk_digest in
    on_err c.from_residual-in_err-write_pending.result _
    (starts_then w.grafted_root (slot_text there as_is w.pending ++ option_text counted_text w.partial)
    (c.in_ok-extend_from_slice.ensures.items ∙ ap (λ t. c.args.out.now.items ++ t) c.bytes.ensures)
    (starts_first (option_text counted_text w.partial) (subst (λ t.
    AppendsStart c.extend_from_slice.new.self.items c.write_pending.new.out.items t) slot
    c.in_err-write_pending.ensures.err)))

pub returns-clause-err : goal.returns-clause-err
returns-clause-err g c =
    let w = witness_of g.D.Digest.text c.args.self.now in
    let there = g.F.Graftable.has_pending in
    let slot = slot_bytes g.D.Digest.text there c.args.self.now.pending_chunk_digest in
    let partial = held_same g.D.Digest.text c.with_count.result c.args.self.now.partial_chunk c.with_count.ensures in
    on_err_to c.write.result _ _
    (λ a. starts_then w.grafted_root (slot_text there as_is w.pending ++ option_text counted_text w.partial)
    (c.in_ok-extend_from_slice.ensures.items ∙ ap (λ t. c.args.out.now.items ++ t) c.bytes.ensures)
    (starts_then (slot_text there as_is w.pending) (option_text counted_text w.partial)
    (c.in_ok-write_pending.ensures.ok ∙ ap (λ t. c.extend_from_slice.new.self.items ++ t) slot)
    (subst (λ t. AppendsStart c.write_pending.new.out.items c.write.new.out.items t) partial a)))
    c.write.ensures.err

pub returns-clause-ok : goal.returns-clause-ok
returns-clause-ok g c = grind (arith, common_steps)
