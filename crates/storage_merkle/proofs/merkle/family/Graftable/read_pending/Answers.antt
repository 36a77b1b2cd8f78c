use Rattle.std.proofs.Common.{rules, arith}
use Rattle.storage_codec.specs.Laws.Parts.{ends_then}
use Rattle.storage_merkle.proofs.merkle.family.Graftable.read_pending.Goals as goal

pub returns-clause-gives : goal.returns-clause-gives
returns-clause-gives g c = search rules

pub returns-in_err-read-clause-ends : goal.returns-in_err-read-clause-ends
returns-in_err-read-clause-ends g c = grind (arith, ends_then)

pub returns-clause-ends : goal.returns-clause-ends
returns-clause-ends g c = grind (arith, ends_then)
