use Rattle.std.proofs.Common.{arith}
use Rattle.storage_codec.specs.Laws.Parts.{ends_then}
use Rattle.storage_current.proofs.qmdb.current.ordered.codec.read_pair.Goals as goal

pub returns-in-Ok-read_cfg-clause-ends : goal.returns-in-Ok-read_cfg-clause-ends
returns-in-Ok-read_cfg-clause-ends g c = grind (arith, ends_then)

pub returns-in-Err-read_cfg-clause-ends : goal.returns-in-Err-read_cfg-clause-ends
returns-in-Err-read_cfg-clause-ends g c = grind (arith, ends_then)
