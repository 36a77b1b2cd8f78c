use Rattle.std.proofs.Common.{length}
use Rattle.reference.proofs.check.+look_up.Given as goal

abbrev pub decreases-look_up : goal.decreases-look_up
decreases-look_up g l = length l.sites.now
