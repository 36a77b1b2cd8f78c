use Rattle.storage_merkle.specs.Laws.Shape.{one_pending, none_pending}
use Rattle.storage_merkle.proofs.laws.families.at_most_one_chunk_is_pending.Goals as goal

pub returns-clause-one : goal.returns-clause-one
returns-clause-one g c = one_pending g.F.Family.shape g.met.F.Family.laws

pub returns-clause-none : goal.returns-clause-none
returns-clause-none g c = λ absent. none_pending g.F.Family.shape g.met.F.Family.laws (g.met.F.Graftable.prompt absent)
