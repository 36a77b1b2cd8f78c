use Rattle.std.proofs.Common.{length}
use Rattle.reference.proofs.site.+up_to_count.Given as goal

abbrev pub decreases-up_to_count : goal.decreases-up_to_count
decreases-up_to_count l = length l.peaks.now
