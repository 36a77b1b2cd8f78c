use Rattle.storage_sync.proofs.Copies.{copies}
use Rattle.storage_sync.proofs.laws.pages_are_copies.Goals as goal

pub returns : goal.returns
returns c = λ d h width sized g laws root leaves ops_root pages named rooted proved s snapshot same.
    copies c.current_proofs_are_sound.ensures d h width sized g laws root s snapshot same leaves ops_root pages named rooted
    proved
