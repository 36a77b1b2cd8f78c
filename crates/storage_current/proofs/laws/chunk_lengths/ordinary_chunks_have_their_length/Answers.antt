use Rattle.storage_current.proofs.laws.chunk_lengths.ordinary_chunks_have_their_length.Goals as goal

pub returns : goal.returns
returns g c = λ size leaves cut a k one grafted multiple inside out. cc
