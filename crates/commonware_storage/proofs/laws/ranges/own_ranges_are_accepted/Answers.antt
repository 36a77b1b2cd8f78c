use Rattle.commonware_storage.proofs.OwnRanges.{own_ranges}
use Rattle.commonware_storage.proofs.laws.ranges.own_ranges_are_accepted.Goals as goal

pub returns : goal.returns
returns c = own_ranges c.own_current_proofs_are_accepted.ensures c.own_current_proofs_are_read_again.ensures
