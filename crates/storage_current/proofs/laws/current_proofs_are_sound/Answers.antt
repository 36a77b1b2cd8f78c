use Rattle.storage_current.proofs.RangeSound.{current_sound}
use Rattle.storage_current.proofs.laws.current_proofs_are_sound.Goals as goal

pub returns : goal.returns
returns c = λ d h width sized g laws proof start operations chunks digests s snapshot ok.
    current_sound c.range_proofs_are_sound.ensures d h width sized g laws proof start operations chunks
    digests s snapshot ok
