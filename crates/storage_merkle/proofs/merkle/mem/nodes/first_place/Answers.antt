use Rattle.std.proofs.Common.{arith}
use Rattle.std.proofs.lemmas.Grind.{common_steps}
use Rattle.storage_merkle.proofs.merkle.mem.nodes.first_place.Goals as goal

pub returns-in_err-location-clause-first : goal.returns-in_err-location-clause-first
returns-in_err-location-clause-first g c = grind (arith, common_steps)

pub returns-clause-next : goal.returns-clause-next
returns-clause-next g c = grind (arith, common_steps)

pub returns-clause-first : goal.returns-clause-first
returns-clause-first g c = grind (arith, common_steps)
