use Rattle.std.proofs.Common.{arith}
use Rattle.std.proofs.lemmas.Grind.{common_steps}
use Rattle.storage_merkle.proofs.merkle.proof.pinned.after_fold.Goals as goal

pub returns-in_err-first : goal.returns-in_err-first
returns-in_err-first g c = grind (arith, common_steps)
