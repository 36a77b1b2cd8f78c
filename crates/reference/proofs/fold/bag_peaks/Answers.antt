use Rattle.std.proofs.Common.{arith}
use Rattle.std.proofs.lemmas.Grind.{common_steps}
use Rattle.reference.proofs.fold.bag_peaks.Goals as goal

pub returns-in-BackwardFold : goal.returns-in-BackwardFold
returns-in-BackwardFold g c = grind (arith, common_steps)
