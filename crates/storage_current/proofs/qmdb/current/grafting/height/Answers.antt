use Rattle.storage_current.proofs.Heights.{power_of_log, size_some}
use Rattle.storage_current.proofs.qmdb.current.grafting.height.Goals as goal

pub ilog2-requires : goal.ilog2-requires
ilog2-requires g c = size_some g.row.N c.requires

pub returns-clause-power : goal.returns-clause-power
returns-clause-power g c =
    (power_of_log g.row.N c.ilog2.result c.requires c.ilog2.ensures.power_le c.ilog2.ensures.next_power_gt).0

pub returns-clause-high : goal.returns-clause-high
returns-clause-high g c =
    (power_of_log g.row.N c.ilog2.result c.requires c.ilog2.ensures.power_le c.ilog2.ensures.next_power_gt).1
