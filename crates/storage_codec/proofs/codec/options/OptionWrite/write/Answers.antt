use Rattle.std.proofs.Common.{arith}
use Rattle.storage_codec.specs.Laws.Parts.{starts_cons}
use Rattle.std.proofs.lemmas.Grind.{common_steps}
use Rattle.storage_codec.proofs.codec.options.OptionWrite.write.Goals as goal

pub returns-in_err-write-in-Some-clause-err : goal.returns-in_err-write-in-Some-clause-err
returns-in_err-write-in-Some-clause-err g c = grind (arith, starts_cons)

pub returns-in_ok-write-in-Some-clause-ok : goal.returns-in_ok-write-in-Some-clause-ok
returns-in_ok-write-in-Some-clause-ok g c = grind (arith, common_steps)
