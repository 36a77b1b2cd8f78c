use Rattle.std.proofs.Common.{◌≡◌, ◌∙◌, length, ap, sym, arith}
use Rattle.storage_codec.specs.Parts.{size_of, option_text}
use Rattle.storage_merkle.specs.Wire.{slot_text}
use Rattle.storage_current.specs.Held.{range_proof_of}
use Rattle.storage_current.specs.CurrentWire.{as_is}
use Rattle.storage_current.specs.Laws.CurrentWire.{current_length, slot_bytes, option_bytes}
use Rattle.storage_current.proofs.Written.{fits}
use Rattle.storage_current.proofs.qmdb.current.proof.codec.RangeProofEncodeSize.encode_size.Goals as goal

pub returns : goal.returns
returns g c =
    let p = range_proof_of g.D.Digest.text c.args.self.now in
    let there = g.F.Graftable.has_pending in
    let root : c.size.result ≡ length p.ops_root =
    c.size.ensures.value ∙ sym (g.met.D.Digest.sized c.args.self.now.ops_root) in
    let partial : c.option_size-partial.result ≡ size_of (length (option_text as_is p.partial)) =
    c.option_size-partial.ensures
    ∙ ap (λ t. size_of (length t)) (option_bytes g.D.Digest.text c.args.self.now.partial_chunk_digest) in
    let pending : c.pending_size.result ≡ length (slot_text there as_is p.pending) = c.pending_size.ensures.value
    ∙ ap length (slot_bytes g.D.Digest.text there c.args.self.now.pending_chunk_digest) in
    c.sum-2.ensures _ _ c.encode_size.ensures
    (c.sum.ensures _ _ (fits _ _ pending (omega (arith, c.pending_size.ensures.small)))
    (c.sum-ends.ensures _ _ partial
    (fits _ _ root (omega (arith, c.size.ensures.value, c.size.ensures.small)))))
    ∙ ap size_of (current_length there p)
