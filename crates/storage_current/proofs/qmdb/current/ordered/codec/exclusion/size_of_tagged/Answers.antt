use Rattle.std.proofs.Common.{arith}
use Rattle.std.proofs.lemmas.Grind.{common_steps}
use Rattle.storage_current.proofs.qmdb.current.ordered.codec.exclusion.size_of_tagged.Goals as goal

pub returns : goal.returns
returns g c = grind (arith, common_steps)

pub returns-in_err-encode_size : goal.returns-in_err-encode_size
returns-in_err-encode_size g c = grind (arith, common_steps)

pub returns-in_err-encode_size-2 : goal.returns-in_err-encode_size-2
returns-in_err-encode_size-2 g c = grind (arith, common_steps)

pub returns-in_err-both : goal.returns-in_err-both
returns-in_err-both g c = grind (arith, common_steps)
