use Rattle.storage_merkle.proofs.Pinned.Sound.{pinned_digests_sound}
use Rattle.storage_merkle.proofs.laws.extracted.pinned_digests_are_sound.Goals as goal

pub returns : goal.returns
returns c = pinned_digests_sound
