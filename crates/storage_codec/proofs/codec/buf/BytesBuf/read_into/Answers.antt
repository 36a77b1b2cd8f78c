use Rattle.std.proofs.Common.{rules, arith}
use Rattle.storage_codec.specs.Laws.Parts.{ends_same, ends_drop}
use Rattle.storage_codec.proofs.codec.buf.BytesBuf.read_into.Goals as goal

pub returns-clause-gives : goal.returns-clause-gives
returns-clause-gives c = search rules

pub returns-clause-ends : goal.returns-clause-ends
returns-clause-ends c = grind (arith, ends_same, ends_drop)
