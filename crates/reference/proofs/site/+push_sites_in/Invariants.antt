use Rattle.std.proofs.Common.{length}
use Rattle.reference.proofs.site.+push_sites_in.Given as goal

abbrev pub decreases-push_sites_in : goal.decreases-push_sites_in
decreases-push_sites_in g l = length l.peaks.now
