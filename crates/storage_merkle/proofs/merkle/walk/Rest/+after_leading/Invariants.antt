use Rattle.storage_merkle.proofs.merkle.walk.Rest.+after_leading.Given as goal

abbrev pub decreases-after_leading : goal.decreases-after_leading
decreases-after_leading g l = l.self.left
