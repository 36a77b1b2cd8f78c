use Rattle.std.proofs.Common.{refl}
use Rattle.storage_merkle.proofs.merkle.mmb.FamilyGraftable.has_pending.Goals as goal

pub returns : goal.returns
returns c = refl
