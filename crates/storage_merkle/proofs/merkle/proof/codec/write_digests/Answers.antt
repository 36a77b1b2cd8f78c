use Rattle.std.proofs.Common.{map, ap, arith}
use Rattle.storage_codec.specs.Laws.Parts.{starts_none}
use Rattle.storage_merkle.specs.ProofWire.{joined_text}
use Rattle.storage_merkle.proofs.Written.{on_err, writing_stops}
use Rattle.std.proofs.lemmas.Grind.{common_steps}
use Rattle.storage_merkle.proofs.merkle.proof.codec.write_digests.Goals as goal

pub returns-in_err-extend_from_slice-clause-err : goal.returns-in_err-extend_from_slice-clause-err
returns-in_err-extend_from_slice-clause-err g c =
    let T = g.D.Digest.text in
    on_err c.from_residual.result _ (writing_stops _ _ _ _ _ (T c.in-Some.digest.now)
    (joined_text (map T c.in-Some.rest.now)) c.loop-digest.invariant
    (ap (λ ds. joined_text (map T ds)) c.in-Some.ensures.cases.0) (starts_none _ c.in_err-extend_from_slice.ensures.items))

pub loop-digest-preserved : goal.loop-digest-preserved
loop-digest-preserved g c = grind (arith, common_steps)

pub returns-clause-ok : goal.returns-clause-ok
returns-clause-ok g c = grind (arith, common_steps)
