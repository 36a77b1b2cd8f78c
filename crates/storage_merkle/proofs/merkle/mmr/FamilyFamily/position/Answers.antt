use Rattle.storage_merkle.specs.Laws.Mmr.{mmr_height}
use Rattle.std.proofs.Common.{rules}
use Rattle.storage_merkle.proofs.merkle.mmr.FamilyFamily.position.Goals as goal

pub power-requires : goal.power-requires
power-requires c = mmr_height c.args.first c.args.height c.requires.fits

pub returns : goal.returns
returns c = search rules
