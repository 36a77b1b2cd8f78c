use Rattle.storage_codec.specs.Parts.{varint_text}
use Rattle.storage_codec.specs.Laws.Parts.{starts_then, starts_first, starts_none}
use Rattle.storage_current.proofs.Written.{on_err}
use Rattle.std.proofs.Common.{arith}
use Rattle.std.proofs.lemmas.Grind.{common_steps}
use Rattle.storage_current.proofs.qmdb.current.proof.witness.codec.CountedWrite.write.Goals as goal

pub returns-in_err-write-clause-err : goal.returns-in_err-write-clause-err
returns-in_err-write-clause-err g c =
    on_err c.from_residual.result _ (starts_first (g.D.Digest.text c.args.self.now.digest) c.in_err-write.ensures.err)

pub returns-in_err-extend_from_slice-clause-err : goal.returns-in_err-extend_from_slice-clause-err
returns-in_err-extend_from_slice-clause-err g c =
    let digest = g.D.Digest.text c.args.self.now.digest in
    on_err c.from_residual-in_err-extend_from_slice.result _ (starts_then (varint_text c.args.self.now.bits) digest
    c.in_ok-write.ensures.ok (starts_none digest c.in_err-extend_from_slice.ensures.items))

pub returns-clause-ok : goal.returns-clause-ok
returns-clause-ok g c = grind (arith, common_steps)
