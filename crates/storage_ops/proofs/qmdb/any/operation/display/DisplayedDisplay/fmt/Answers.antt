use Rattle.std.proofs.Common.{arith}
use Rattle.std.proofs.lemmas.Grind.{elements}
use Rattle.storage_ops.proofs.qmdb.any.operation.display.DisplayedDisplay.fmt.Goals as goal

pub returns-in_ok-key-in-Delete-clause-writes : goal.returns-in_ok-key-in-Delete-clause-writes
returns-in_ok-key-in-Delete-clause-writes g c = grind (arith, elements)
