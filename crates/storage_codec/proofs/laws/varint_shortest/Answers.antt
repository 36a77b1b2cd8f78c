use Rattle.storage_codec.specs.Laws.Spelling.{varint_fewest, varint_most}
use Rattle.storage_codec.proofs.laws.varint_shortest.Goals as goal

pub returns-clause-fewest : goal.returns-clause-fewest
returns-clause-fewest c = varint_fewest

pub returns-clause-most : goal.returns-clause-most
returns-clause-most c = varint_most
