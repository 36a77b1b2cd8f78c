use Rattle.storage_merkle.specs.Laws.Pace.{mmr_keeps_pace, mmb_keeps_pace}
use Rattle.storage_merkle.proofs.laws.families.chunks_keep_pace.Goals as goal

pub returns : goal.returns
returns c height = (mmr_keeps_pace height, mmb_keeps_pace height)
