use Rattle.std.proofs.Common.{◌++◌, ◌∙◌, ap, arith}
use Rattle.storage_codec.specs.Parts.{varint_text}
use Rattle.storage_codec.specs.Laws.Parts.{starts_then, starts_first}
use Rattle.storage_current.specs.Held.{range_proof_of}
use Rattle.storage_current.specs.CurrentWire.{range_proof_text}
use Rattle.storage_current.proofs.Written.{on_err, on_err_to}
use Rattle.std.proofs.lemmas.Grind.{common_steps}
use Rattle.storage_current.proofs.qmdb.current.proof.operation.codec.ProofWrite.write.Goals as goal

pub returns-in_err-write-clause-err : goal.returns-in_err-write-clause-err
returns-in_err-write-clause-err g c =
    let range = range_proof_text g.F.Graftable.has_pending (range_proof_of g.D.Digest.text c.args.self.now.range_proof) in
    on_err c.from_residual.result _
    (starts_first (g.C.Chunk.text c.args.self.now.chunk ++ range) c.in_err-write.ensures.err)

pub returns-clause-err : goal.returns-clause-err
returns-clause-err g c =
    let range = range_proof_text g.F.Graftable.has_pending (range_proof_of g.D.Digest.text c.args.self.now.range_proof) in
    let chunk = g.C.Chunk.text c.args.self.now.chunk in
    on_err_to c.write-2.result _ _
    (λ a. starts_then (varint_text c.args.self.now.loc) (chunk ++ range) c.in_ok-write.ensures.ok
    (starts_then chunk range (c.in_ok-extend_from_slice.ensures.items
    ∙ ap (λ t. c.write.new.out.items ++ t) c.bytes.ensures) a))
    c.write-2.ensures.err

pub returns-clause-ok : goal.returns-clause-ok
returns-clause-ok g c = grind (arith, common_steps)
