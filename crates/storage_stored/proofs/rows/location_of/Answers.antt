use Rattle.std.proofs.Common.{arith}
use Rattle.storage_stored.proofs.rows.location_of.Goals as goal

pub returns : goal.returns
returns g c = λ d keeps. omega (arith, c.saturating_sub.ensures, c.operation_count.ensures d keeps)
