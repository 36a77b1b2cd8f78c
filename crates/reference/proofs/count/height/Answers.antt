use Rattle.storage_merkle.specs.Mmr.{mmr}
use Rattle.reference.proofs.Counts.{height_from, height_bits}
use Rattle.reference.proofs.count.height.Goals as goal

pub returns-clause-value : goal.returns-clause-value
returns-clause-value c = height_from c.args.chunk_size c.highest_place.result c.requires c.highest_place.ensures.value

pub returns-clause-bits : goal.returns-clause-bits
returns-clause-bits c = (height_bits c.args.chunk_size c.highest_place.result c.requires
    (height_from c.args.chunk_size c.highest_place.result c.requires c.highest_place.ensures.value mmr)).0

pub returns-clause-small : goal.returns-clause-small
returns-clause-small c = (height_bits c.args.chunk_size c.highest_place.result c.requires
    (height_from c.args.chunk_size c.highest_place.result c.requires c.highest_place.ensures.value mmr)).1
