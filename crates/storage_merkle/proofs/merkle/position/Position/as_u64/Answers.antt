use Rattle.std.proofs.Common.{refl}
use Rattle.storage_merkle.proofs.merkle.position.Position.as_u64.Goals as goal

pub returns : goal.returns
returns g c = rw (← c.self.view_is) refl
