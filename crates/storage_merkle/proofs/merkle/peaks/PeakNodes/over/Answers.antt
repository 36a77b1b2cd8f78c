use Rattle.std.proofs.Common.{arith}
use Rattle.storage_merkle.proofs.merkle.peaks.PeakNodes.over.Goals as goal

pub invariant_of-result : goal.invariant_of-result
invariant_of-result g c = (omega arith, g.met.F.Family.laws.aligned c.args.leaves)
