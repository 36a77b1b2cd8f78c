use Rattle.std.proofs.Common.{◌≡◌, ◌∙◌, length, ap, arith}
use Rattle.storage_codec.specs.Parts.{size_of}
use Rattle.storage_current.specs.Held.{range_proof_of}
use Rattle.storage_current.specs.Laws.CurrentWire.{operation_length}
use Rattle.storage_current.proofs.Written.{fits}
use Rattle.storage_current.proofs.qmdb.current.proof.operation.codec.ProofEncodeSize.encode_size.Goals as goal

pub returns : goal.returns
returns g c =
    let chunk : length c.bytes.result.now ≡ length (g.C.Chunk.text c.args.self.now.chunk) = ap length c.bytes.ensures in
    c.sum-2.ensures _ _ c.encode_size.ensures (c.sum.ensures _ _ (fits _ _ chunk (omega arith)) c.encode_size-2.ensures)
    ∙ ap size_of (operation_length g.F.Graftable.has_pending (record {
      location = c.args.self.now.loc;
      chunk = g.C.Chunk.text c.args.self.now.chunk;
      range = range_proof_of g.D.Digest.text c.args.self.now.range_proof;
    }))
