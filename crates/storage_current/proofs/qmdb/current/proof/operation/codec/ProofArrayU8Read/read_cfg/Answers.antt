use Rattle.std.proofs.Common.{ℕ, arith, refl}
use Rattle.std.proofs.lemmas.List.{length-replicate}
use Rattle.storage_codec.specs.Laws.Parts.{ends_then}
use Rattle.storage_current.proofs.qmdb.current.proof.operation.codec.ProofArrayU8Read.read_cfg.Goals as goal

pub returns-in-Ok-read_cfg-clause-gives : goal.returns-in-Ok-read_cfg-clause-gives
returns-in-Ok-read_cfg-clause-gives g c =
    let chunk = rw (length-replicate {A = ℕ} g.row.N 0) at c.in_ok-read_into.ensures.gives in
    rw (c.in-Ok.ensures.gives, chunk, c.in-Ok-read_cfg.ensures.gives) refl

pub returns-in-Ok-read_cfg-clause-ends : goal.returns-in-Ok-read_cfg-clause-ends
returns-in-Ok-read_cfg-clause-ends g c = grind (arith, ends_then)

pub returns-in-Err-read_cfg-clause-ends : goal.returns-in-Err-read_cfg-clause-ends
returns-in-Err-read_cfg-clause-ends g c = grind (arith, ends_then)
