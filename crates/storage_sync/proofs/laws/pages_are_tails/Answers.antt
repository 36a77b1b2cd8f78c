use Rattle.storage_sync.proofs.Floors.{tails}
use Rattle.storage_sync.proofs.laws.pages_are_tails.Goals as goal

pub returns : goal.returns
returns c = tails c.current_proofs_are_sound.ensures
