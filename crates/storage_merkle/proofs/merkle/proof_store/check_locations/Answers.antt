use Rattle.std.proofs.Common.{arith}
use Rattle.std.proofs.lemmas.Grind.{common_steps}
use Rattle.storage_merkle.proofs.merkle.proof_store.check_locations.Goals as goal

pub returns-then-number-next-2 : goal.returns-then-number-next-2
returns-then-number-next-2 g c = grind (arith, common_steps)

pub returns-then-number-next : goal.returns-then-number-next
returns-then-number-next g c = grind (arith, common_steps)

pub returns-then-number-leaves : goal.returns-then-number-leaves
returns-then-number-leaves g c = grind (arith, common_steps)

pub loop-location-preserved : goal.loop-location-preserved
loop-location-preserved g c = grind (arith, common_steps)

pub returns : goal.returns
returns g c = grind (arith, common_steps)
