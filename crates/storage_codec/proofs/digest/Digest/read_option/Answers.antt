use Rattle.std.proofs.Common.{rules, arith}
use Rattle.storage_codec.specs.Laws.Parts.{ends_then}
use Rattle.storage_codec.proofs.digest.Digest.read_option.Goals as goal

pub returns-in_err-read-clause-ends : goal.returns-in_err-read-clause-ends
returns-in_err-read-clause-ends g c = grind (arith, ends_then)

pub returns-in_ok-read-clause-ends : goal.returns-in_ok-read-clause-ends
returns-in_ok-read-clause-ends g c = grind (arith, ends_then)

pub returns-in_ok-read-clause-gives : goal.returns-in_ok-read-clause-gives
returns-in_ok-read-clause-gives g c = search rules
