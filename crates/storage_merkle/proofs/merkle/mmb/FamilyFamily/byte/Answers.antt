use Rattle.std.proofs.Common.{refl}
use Rattle.storage_merkle.proofs.merkle.mmb.FamilyFamily.byte.Goals as goal

pub returns : goal.returns
returns c = refl
