use Rattle.std.proofs.Common.{length}
use Rattle.reference.proofs.count.+leaves_of.Given as goal

abbrev pub decreases-leaves_of : goal.decreases-leaves_of
decreases-leaves_of l = length l.heights.now
