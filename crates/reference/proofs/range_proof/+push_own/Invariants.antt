use Rattle.std.proofs.Common.{length}
use Rattle.reference.proofs.range_proof.+push_own.Given as goal

abbrev pub decreases-push_own : goal.decreases-push_own
decreases-push_own g l = length l.sites.now
