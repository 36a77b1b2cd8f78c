use Rattle.storage_codec.specs.Laws.Spelling.{vector_same}
use Rattle.storage_codec.proofs.laws.equal_vectors_by_encoding.Goals as goal

pub returns : goal.returns
returns c = vector_same
