use Rattle.std.proofs.Common.{arith}
use Rattle.std.proofs.lemmas.Grind.{common_steps}
use Rattle.storage_current.proofs.qmdb.current.proof.slots.matches.Goals as goal

pub returns-in-Some-place : goal.returns-in-Some-place
returns-in-Some-place g c = grind (arith, common_steps)
