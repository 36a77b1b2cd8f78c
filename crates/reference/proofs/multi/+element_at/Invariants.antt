use Rattle.std.proofs.Common.{length}
use Rattle.reference.proofs.multi.+element_at.Given as goal

abbrev pub decreases-element_at : goal.decreases-element_at
decreases-element_at g l = length l.claims.now
