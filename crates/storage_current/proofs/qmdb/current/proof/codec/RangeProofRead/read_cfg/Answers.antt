use Rattle.std.proofs.Common.{refl, arith}
use Rattle.storage_codec.specs.Laws.Parts.{ends_then}
use Rattle.storage_codec.specs.Laws.Failing.{fails_then}
use Rattle.storage_current.proofs.qmdb.current.proof.codec.RangeProofRead.read_cfg.Goals as goal

pub returns-in-Err-clause-gives : goal.returns-in-Err-clause-gives
returns-in-Err-clause-gives g c = fails_then _ _ _ c.in-Err.ensures.gives

pub returns-in-Err-read_pending-clause-gives : goal.returns-in-Err-read_pending-clause-gives
returns-in-Err-read_pending-clause-gives g c =
    rw c.in-Ok.ensures.gives (fails_then _ _ _ c.in-Err-read_pending.ensures.gives)

pub returns-in-Err-read_option-clause-gives : goal.returns-in-Err-read_option-clause-gives
returns-in-Err-read_option-clause-gives g c = rw (c.in-Ok.ensures.gives, c.in-Ok-read_pending.ensures.gives)
    (fails_then _ _ _ c.in-Err-read_option.ensures.gives)

pub returns-in-Err-read-clause-gives : goal.returns-in-Err-read-clause-gives
returns-in-Err-read-clause-gives g c =
    rw (c.in-Ok.ensures.gives, c.in-Ok-read_pending.ensures.gives, c.in-Ok-read_option.ensures.gives)
    (fails_then _ _ _ c.in-Err-read.ensures.gives)

pub returns-in-Ok-read-clause-gives : goal.returns-in-Ok-read-clause-gives
returns-in-Ok-read-clause-gives g c = rw (
  c.in-Ok.ensures.gives,
  c.in-Ok-read_pending.ensures.gives,
  c.in-Ok-read_option.ensures.gives,
  c.in-Ok-read.ensures.gives,
) refl

pub returns-in-Ok-read-clause-ends : goal.returns-in-Ok-read-clause-ends
returns-in-Ok-read-clause-ends g c = ends_then c.read_cfg.ensures.ends
    (ends_then c.read_pending.ensures.ends (ends_then c.read_option.ensures.ends c.read.ensures.ends))

pub returns-in-Err-read-clause-ends : goal.returns-in-Err-read-clause-ends
returns-in-Err-read-clause-ends g c = ends_then c.read_cfg.ensures.ends
    (ends_then c.read_pending.ensures.ends (ends_then c.read_option.ensures.ends c.read.ensures.ends))

pub returns-in-Err-read_pending-clause-ends : goal.returns-in-Err-read_pending-clause-ends
returns-in-Err-read_pending-clause-ends g c = grind (arith, ends_then)

pub returns-in-Err-read_option-clause-ends : goal.returns-in-Err-read_option-clause-ends
returns-in-Err-read_option-clause-ends g c = grind (arith, ends_then)
