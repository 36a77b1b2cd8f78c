use Rattle.std.proofs.Common.{length}
use Rattle.reference.proofs.site.+leading_count.Given as goal

abbrev pub decreases-leading_count : goal.decreases-leading_count
decreases-leading_count l = length l.peaks.now
