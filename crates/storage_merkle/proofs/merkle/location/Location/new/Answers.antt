use Rattle.std.proofs.Common.{refl}
use Rattle.storage_merkle.proofs.merkle.location.Location.new.Goals as goal

pub returns : goal.returns
returns g c = refl
