use Rattle.std.proofs.Common.{arith}
use Rattle.storage_codec.specs.Parts.{varint_text}
use Rattle.storage_codec.proofs.Varint.{room_nine}
use Rattle.storage_codec.proofs.codec.varint.UIntWrite.write.Goals as goal

pub returns-clause-ok : goal.returns-clause-ok
unfolding varint_text
returns-clause-ok c = c.put.ensures.ok

pub put-requires : goal.put-requires
put-requires c = grind (arith, room_nine)
