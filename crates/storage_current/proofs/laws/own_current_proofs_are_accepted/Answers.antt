use Rattle.storage_current.proofs.RangeOwn.{own_current_is_accepted}
use Rattle.storage_current.proofs.laws.own_current_proofs_are_accepted.Goals as goal

pub returns : goal.returns
returns c = λ h g grafting s snapshot start operations chunks holds. own_current_is_accepted
    c.own_range_proofs_are_accepted.ensures h g grafting s snapshot start operations chunks holds
