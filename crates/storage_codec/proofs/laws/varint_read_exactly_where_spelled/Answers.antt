use Rattle.storage_codec.specs.Laws.Spelling.{varint_exact}
use Rattle.storage_codec.proofs.laws.varint_read_exactly_where_spelled.Goals as goal

pub returns : goal.returns
returns c = varint_exact
