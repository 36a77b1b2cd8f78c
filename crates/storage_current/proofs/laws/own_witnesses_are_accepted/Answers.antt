use Rattle.storage_current.proofs.WitnessSound.{witness_accepted}
use Rattle.storage_current.proofs.laws.own_witnesses_are_accepted.Goals as goal

pub returns : goal.returns
returns c = witness_accepted
