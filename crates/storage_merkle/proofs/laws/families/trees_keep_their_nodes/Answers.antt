use Rattle.storage_merkle.specs.Laws.Peaks.{inside_grows}
use Rattle.storage_merkle.proofs.laws.families.trees_keep_their_nodes.Goals as goal

pub returns : goal.returns
returns g c = inside_grows g.F.Family.shape g.met.F.Family.laws
