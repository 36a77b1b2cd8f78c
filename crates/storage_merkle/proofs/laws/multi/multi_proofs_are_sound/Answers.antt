use Rattle.storage_merkle.proofs.Multi.Sound.{multi_sound}
use Rattle.storage_merkle.proofs.laws.multi.multi_proofs_are_sound.Goals as goal

pub returns : goal.returns
returns c = multi_sound
