use Rattle.std.proofs.Common.{◌≡◌, ◌++◌, List}
use Rattle.storage_merkle.specs.PlanParts.{StandsAt}
use Rattle.storage_merkle.proofs.Plan.ByPosition.{Zips}
use Rattle.storage_merkle.proofs.merkle.plan.digests.Nodes.add_all.Given as goal

abbrev pub invariant-loop-position : goal.invariant-loop-position
invariant-loop-position g l = (added : List _) × (l.digests.items ≡ l.fn.digests.items ++ added)
    × Zips l.positions (StandsAt l.self.positions.now l.self.digests.now) l.position-index added
