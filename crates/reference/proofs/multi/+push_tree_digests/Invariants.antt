use Rattle.std.proofs.Common.{length}
use Rattle.reference.proofs.multi.+push_tree_digests.Given as goal

abbrev pub decreases-push_tree_digests : goal.decreases-push_tree_digests
decreases-push_tree_digests g l = length l.sites.now
