use Rattle.std.proofs.Common.{◌≡◌, ◌∙◌, length, ap, sym, arith}
use Rattle.storage_codec.specs.Parts.{size_of, option_text}
use Rattle.storage_merkle.specs.Wire.{slot_text}
use Rattle.storage_current.specs.CurrentWire.{as_is}
use Rattle.storage_current.specs.Laws.CurrentWire.{slot_bytes}
use Rattle.storage_current.specs.WitnessWire.{counted_text, witness_of}
use Rattle.storage_current.specs.Laws.WitnessWire.{witness_length}
use Rattle.storage_current.proofs.WitnessWritten.{held_same}
use Rattle.storage_current.proofs.Written.{fits}
use Rattle.storage_current.proofs.qmdb.current.proof.witness.codec.OpsRootWitnessEncodeSize.encode_size.Goals as goal

pub returns : goal.returns
returns g c =
    let w = witness_of g.D.Digest.text c.args.self.now in
    let there = g.F.Graftable.has_pending in
    let root : c.size.result ≡ length w.grafted_root =
    c.size.ensures.value ∙ sym (g.met.D.Digest.sized c.args.self.now.grafted_root) in
    let held = held_same g.D.Digest.text c.with_count.result c.args.self.now.partial_chunk c.with_count.ensures in
    let partial : c.encode_size-partial.result ≡ size_of (length (option_text counted_text w.partial)) =
    c.encode_size-partial.ensures ∙ ap (λ t. size_of (length t)) held in
    let pending : c.pending_size.result ≡ length (slot_text there as_is w.pending) = c.pending_size.ensures.value
    ∙ ap length (slot_bytes g.D.Digest.text there c.args.self.now.pending_chunk_digest) in
    c.sum-2.ensures _ _ (fits _ _ root (omega (arith, c.size.ensures.value, c.size.ensures.small)))
    (c.sum.ensures _ _ (fits _ _ pending (omega (arith, c.pending_size.ensures.small))) partial)
    ∙ ap size_of (witness_length there w)
