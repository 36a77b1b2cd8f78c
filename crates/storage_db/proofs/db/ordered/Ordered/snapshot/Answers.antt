use Rattle.std.proofs.Common.{arith}
use Rattle.storage_db.proofs.db.ordered.Ordered.snapshot.Goals as goal

pub returns-in-Some : goal.returns-in-Some
returns-in-Some g c = grind arith

pub returns-in-None : goal.returns-in-None
returns-in-None g c = grind arith
