use Rattle.storage_current.proofs.Families.{lawful_mmr, lawful_mmb, none_pending}
use Rattle.storage_current.proofs.laws.families_are_lawful.Goals as goal

pub returns : goal.returns
returns c = λ k one. (lawful_mmr k, lawful_mmb k, none_pending k)
