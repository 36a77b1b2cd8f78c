use Rattle.std.proofs.Common.{arith, rules}
use Rattle.storage_codec.specs.Laws.Parts.{starts_first, starts_then}
use Rattle.std.proofs.lemmas.Grind.{common_steps}
use Rattle.storage_codec.proofs.codec.vector.VecU8Write.write.Goals as goal

pub returns-in_err-write-clause-err : goal.returns-in_err-write-clause-err
returns-in_err-write-clause-err c = grind (arith, starts_first, starts_then)

pub returns-clause-ok : goal.returns-clause-ok
returns-clause-ok c = grind (arith, common_steps)

pub returns-in_err-extend_from_slice-clause-err : goal.returns-in_err-extend_from_slice-clause-err
returns-in_err-extend_from_slice-clause-err c = search rules
