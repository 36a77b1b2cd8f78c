use Rattle.storage_merkle.proofs.merkle.plan.RangePlan.new.Goals as goal

pub returns : goal.returns
returns g c = c.over.ensures
