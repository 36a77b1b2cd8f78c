use Rattle.std.proofs.Common.{refl, rules}
use Rattle.storage_codec.specs.Laws.Parts.{ends_then}
use Rattle.storage_codec.specs.Laws.Failing.{fails_then}
use Rattle.storage_current.proofs.qmdb.current.proof.witness.codec.CountedRead.read_cfg.Goals as goal

pub returns-in-Ok-clause-ends : goal.returns-in-Ok-clause-ends
returns-in-Ok-clause-ends g c = ends_then c.read_cfg.ensures.ends c.read.ensures.ends

pub returns-in-Err-clause-ends : goal.returns-in-Err-clause-ends
returns-in-Err-clause-ends g c = ends_then c.read_cfg.ensures.ends c.read.ensures.ends

pub returns-in-Ok-clause-gives : goal.returns-in-Ok-clause-gives
returns-in-Ok-clause-gives g c = rw (c.in_ok-bits.ensures.gives, c.in-Ok.ensures.gives) refl

pub returns-in_err-bits-clause-gives : goal.returns-in_err-bits-clause-gives
returns-in_err-bits-clause-gives g c = search rules

pub returns-in_err-bits-clause-ends : goal.returns-in_err-bits-clause-ends
returns-in_err-bits-clause-ends g c = search rules

pub returns-in-Err-clause-gives : goal.returns-in-Err-clause-gives
returns-in-Err-clause-gives g c = rw c.in_ok-bits.ensures.gives (fails_then _ _ _ c.in-Err.ensures.gives)
