use Rattle.storage_codec.specs.Laws.Spelling.{varint_cut}
use Rattle.storage_codec.proofs.laws.varint_cut_short.Goals as goal

pub returns : goal.returns
returns c = varint_cut
