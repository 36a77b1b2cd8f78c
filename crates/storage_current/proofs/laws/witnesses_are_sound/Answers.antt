use Rattle.storage_current.proofs.WitnessSound.{witness_sound}
use Rattle.storage_current.proofs.laws.witnesses_are_sound.Goals as goal

pub returns : goal.returns
returns c = witness_sound
