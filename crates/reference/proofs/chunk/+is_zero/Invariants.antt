use Rattle.std.proofs.Common.{length}
use Rattle.reference.proofs.chunk.+is_zero.Given as goal

abbrev pub decreases-is_zero : goal.decreases-is_zero
decreases-is_zero l = length l.bytes.now
