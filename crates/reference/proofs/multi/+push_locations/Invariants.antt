use Rattle.std.proofs.Common.{length}
use Rattle.reference.proofs.multi.+push_locations.Given as goal

abbrev pub decreases-push_locations : goal.decreases-push_locations
decreases-push_locations g l = length l.claims.now
