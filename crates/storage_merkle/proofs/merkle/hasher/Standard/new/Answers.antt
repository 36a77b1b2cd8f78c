use Rattle.std.proofs.Common.{refl}
use Rattle.storage_merkle.proofs.merkle.hasher.Standard.new.Goals as goal

pub returns : goal.returns
returns g c = refl
