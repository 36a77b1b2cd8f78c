use Rattle.storage_merkle.proofs.Multi.Claims.{Left}
use Rattle.storage_merkle.proofs.merkle.multi.needed.ascend.Given as goal

abbrev pub invariant-loop-item : goal.invariant-loop-item
invariant-loop-item g l = Left g.L.Located.place l.leaves l.first l.item-index l.items
