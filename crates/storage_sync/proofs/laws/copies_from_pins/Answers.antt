use Rattle.storage_sync.proofs.Floors.{copies_from}
use Rattle.storage_sync.proofs.laws.copies_from_pins.Goals as goal

pub returns : goal.returns
returns g c = copies_from g.D.Digest.text c.current_proofs_are_sound.ensures
