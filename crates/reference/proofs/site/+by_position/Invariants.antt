use Rattle.std.proofs.Common.{length}
use Rattle.reference.proofs.site.+by_position.Given as goal

abbrev pub decreases-by_position : goal.decreases-by_position
decreases-by_position g l = length l.sites.now
