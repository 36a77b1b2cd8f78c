use Rattle.storage_merkle.specs.Laws.Peaks.{peaks_nest}
use Rattle.storage_merkle.proofs.laws.families.peaks_nest.Goals as goal

pub returns : goal.returns
returns g c = peaks_nest g.F.Family.shape g.met.F.Family.laws
