use Rattle.std.proofs.Common.{arith}
use Rattle.std.proofs.lemmas.Grind.{common_steps}
use Rattle.storage_merkle.proofs.merkle.hasher.fold_forward.Goals as goal

pub returns-in_err-first : goal.returns-in_err-first
returns-in_err-first g c = grind (arith, common_steps)

pub returns : goal.returns
returns g c = grind (arith, common_steps)
