use Rattle.std.proofs.Common.{refl}
use Rattle.storage_codec.specs.Laws.Parts.{ends_then}
use Rattle.storage_codec.specs.Laws.Failing.{fails_mapped}
use Rattle.storage_current.proofs.qmdb.current.ordered.codec.exclusion.ExclusionProofArrayU8Read.read_cfg.Goals as goal

pub returns-in-Ok-clause-gives : goal.returns-in-Ok-clause-gives
returns-in-Ok-clause-gives g c = rw (c.in_ok-tag.ensures.gives, c.in-0.is, c.in-Ok.ensures.gives) refl

pub returns-in-Ok-clause-ends : goal.returns-in-Ok-clause-ends
returns-in-Ok-clause-ends g c = ends_then c.byte.ensures.ends c.read_before_update.ensures.ends

pub returns-in-Err-clause-gives : goal.returns-in-Err-clause-gives
returns-in-Err-clause-gives g c = rw (c.in_ok-tag.ensures.gives, c.in-0.is) (fails_mapped _ _ _ c.in-Err.ensures.gives)

pub returns-in-Err-clause-ends : goal.returns-in-Err-clause-ends
returns-in-Err-clause-ends g c = ends_then c.byte.ensures.ends c.read_before_update.ensures.ends

pub returns-in-Ok-read_pair-clause-gives : goal.returns-in-Ok-read_pair-clause-gives
returns-in-Ok-read_pair-clause-gives g c = rw (c.in_ok-tag.ensures.gives, c.in-1.is, c.in-Ok-read_pair.ensures.gives) refl

pub returns-in-Ok-read_pair-clause-ends : goal.returns-in-Ok-read_pair-clause-ends
returns-in-Ok-read_pair-clause-ends g c = ends_then c.byte.ensures.ends c.read_pair.ensures.ends

pub returns-in-Err-read_pair-clause-gives : goal.returns-in-Err-read_pair-clause-gives
returns-in-Err-read_pair-clause-gives g c = rw (c.in_ok-tag.ensures.gives, c.in-1.is) (fails_mapped _ _ _ c.in-Err-read_pair.ensures.gives)

pub returns-in-Err-read_pair-clause-ends : goal.returns-in-Err-read_pair-clause-ends
returns-in-Err-read_pair-clause-ends g c = ends_then c.byte.ensures.ends c.read_pair.ensures.ends
