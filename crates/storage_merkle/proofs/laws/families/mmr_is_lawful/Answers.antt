use Rattle.storage_merkle.specs.Laws.Mmr.{mmr_laws}
use Rattle.storage_merkle.proofs.laws.families.mmr_is_lawful.Goals as goal

pub returns : goal.returns
returns c = mmr_laws
