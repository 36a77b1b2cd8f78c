use Rattle.storage_merkle.specs.Laws.Mmr.{mmr_birth_height}
use Rattle.std.proofs.Common.{refl}
use Rattle.storage_merkle.proofs.merkle.mmr.FamilyFamily.birth.Goals as goal

pub power-requires : goal.power-requires
power-requires c = mmr_birth_height c.args.first c.args.height c.requires

pub returns : goal.returns
returns c = rw c.power.ensures refl
