use Rattle.storage_current.proofs.WellFormed.{one_commit}
use Rattle.storage_current.proofs.laws.keys.one_commit_is_well_formed.Goals as goal

pub returns : goal.returns
returns g c = one_commit _ c.operations_settle_keys.ensures
