use Rattle.std.proofs.Common.{rules}
use Rattle.storage_merkle.specs.Calc.{be8}
use Rattle.storage_merkle.proofs.merkle.hasher.StandardHasher.node_digest.Goals as goal

pub returns : goal.returns
unfolding be8
returns g c = search rules
