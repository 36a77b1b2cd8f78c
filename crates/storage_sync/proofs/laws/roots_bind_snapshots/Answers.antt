use Rattle.storage_sync.proofs.Alike.{alike}
use Rattle.storage_sync.proofs.laws.roots_bind_snapshots.Goals as goal

pub returns : goal.returns
returns c = λ d h some sized g laws s t one other same.
    alike c.witnesses_are_sound.ensures c.own_witnesses_are_accepted.ensures c.roots_bind_their_trees.ensures d h some sized g
    laws s t one other same
