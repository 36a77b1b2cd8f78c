use Rattle.std.proofs.Common.{arith}
use Rattle.std.proofs.lemmas.Grind.{elements}
use Rattle.storage_current.proofs.qmdb.current.grafting.verifier.VerifierClone.clone.Goals as goal

pub returns : goal.returns
returns g c = grind (arith, elements)
