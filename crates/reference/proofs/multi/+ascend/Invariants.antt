use Rattle.std.proofs.Common.{length}
use Rattle.reference.proofs.multi.+ascend.Given as goal

abbrev pub decreases-ascend : goal.decreases-ascend
decreases-ascend l = length l.locations.now
