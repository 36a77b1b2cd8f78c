use Rattle.std.proofs.Common.{refl}
use Rattle.storage_merkle.proofs.merkle.plan.RangePlan.start.Goals as goal

pub returns-clause-value : goal.returns-clause-value
returns-clause-value g c = rw (← c.self.view_is) refl
