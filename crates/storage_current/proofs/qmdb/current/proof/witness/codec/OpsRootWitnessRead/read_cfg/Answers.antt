use Rattle.std.proofs.Common.{arith, refl}
use Rattle.storage_codec.specs.Laws.Parts.{ends_then}
use Rattle.storage_current.proofs.qmdb.current.proof.witness.codec.OpsRootWitnessRead.read_cfg.Goals as goal

pub returns-in-Ok-Some-clause-gives : goal.returns-in-Ok-Some-clause-gives
returns-in-Ok-Some-clause-gives g c = rw (c.in-Ok.ensures.gives, c.in-Ok-read_pending.ensures.gives, c.in-Ok-Some.ensures.gives, c.in-Ok-Some.field-0-is) refl

pub returns-in-Err-read_pending-clause-ends : goal.returns-in-Err-read_pending-clause-ends
returns-in-Err-read_pending-clause-ends g c = grind (arith, ends_then)

pub returns-in-Ok-None-clause-ends : goal.returns-in-Ok-None-clause-ends
returns-in-Ok-None-clause-ends g c = ends_then c.read.ensures.ends (ends_then c.read_pending.ensures.ends c.read_cfg.ensures.ends)

pub returns-in-Ok-Some-clause-ends : goal.returns-in-Ok-Some-clause-ends
returns-in-Ok-Some-clause-ends g c = ends_then c.read.ensures.ends (ends_then c.read_pending.ensures.ends c.read_cfg.ensures.ends)

pub returns-in-Err-read_cfg-clause-ends : goal.returns-in-Err-read_cfg-clause-ends
returns-in-Err-read_cfg-clause-ends g c = ends_then c.read.ensures.ends (ends_then c.read_pending.ensures.ends c.read_cfg.ensures.ends)
