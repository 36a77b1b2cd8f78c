use Rattle.storage_merkle.specs.Laws.Mmb.{mmb_laws}
use Rattle.storage_merkle.proofs.laws.families.mmb_is_lawful.Goals as goal

pub returns : goal.returns
returns c = mmb_laws
