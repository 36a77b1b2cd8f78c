use Rattle.std.proofs.Common.{arith}
use Rattle.std.proofs.lemmas.Grind.{common_steps}
use Rattle.storage_current.proofs.qmdb.current.proof.witness.codec.CountedEncodeSize.encode_size.Goals as goal

pub returns : goal.returns
returns g c = grind (arith, common_steps)
