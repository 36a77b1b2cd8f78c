use Rattle.storage_codec.specs.Laws.Parts.{ends_then}
use Rattle.std.proofs.Common.{◌≡◌, false, nat_lt, refl, arith}
use Rattle.std.proofs.lemmas.Bool.{le-ltb}
use Rattle.storage_merkle.proofs.merkle.proof.codec.ProofRead.read_cfg.Goals as goal

pub returns-in-Ok-read_digests-clause-ends : goal.returns-in-Ok-read_digests-clause-ends
returns-in-Ok-read_digests-clause-ends g c = ends_then c.read_cfg.ensures.ends
    (ends_then c.read_cfg-2.ensures.ends (ends_then c.read_cfg-3.ensures.ends c.read_digests.ensures.ends))

pub returns-in-Err-read_digests-clause-ends : goal.returns-in-Err-read_digests-clause-ends
returns-in-Err-read_digests-clause-ends g c = ends_then c.read_cfg.ensures.ends
    (ends_then c.read_cfg-2.ensures.ends (ends_then c.read_cfg-3.ensures.ends c.read_digests.ensures.ends))

pub returns-in-Ok-read_digests-clause-gives : goal.returns-in-Ok-read_digests-clause-gives
returns-in-Ok-read_digests-clause-gives g c =
    let few : nat_lt c.args.most.now c.in_ok-count.field-0.0 ≡ false = le-ltb _ _ c.if-count-most.false in
    rw (c.in-Ok.ensures.gives, c.in_ok-inactive.ensures.gives, c.in_ok-count.ensures.gives, few, c.in-Ok-read_digests.ensures.gives) refl

pub returns-in_err-inactive-clause-ends : goal.returns-in_err-inactive-clause-ends
returns-in_err-inactive-clause-ends g c = grind (arith, ends_then)

pub returns-in_err-count-clause-ends : goal.returns-in_err-count-clause-ends
returns-in_err-count-clause-ends g c = grind (arith, ends_then)

pub returns-then-count-most-clause-ends : goal.returns-then-count-most-clause-ends
returns-then-count-most-clause-ends g c = grind (arith, ends_then)
