use Rattle.storage_merkle.proofs.RangeSound.{range_sound}
use Rattle.storage_merkle.proofs.laws.range_proofs_are_sound.Goals as goal

pub returns : goal.returns
returns c = λ d N h sized other S L position grafted b proof start claim wide chunked content inactive chunks few peaks ok.
    range_sound d N h sized other S L position grafted b proof start claim wide chunked content chunks inactive few peaks ok
