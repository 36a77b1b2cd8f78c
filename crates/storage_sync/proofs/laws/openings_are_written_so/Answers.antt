use Rattle.storage_sync.specs.Laws.Openings.{openings_back}
use Rattle.storage_sync.proofs.laws.openings_are_written_so.Goals as goal

pub returns : goal.returns
returns c = openings_back
