use Rattle.std.proofs.Common.{arith}
use Rattle.std.proofs.lemmas.Grind.{common_steps}
use Rattle.storage_codec.proofs.codec.vector.VecU8EncodeSize.encode_size.Goals as goal

pub returns-in_err-encode_size : goal.returns-in_err-encode_size
returns-in_err-encode_size c = grind (arith, common_steps)

pub returns : goal.returns
returns c = grind (arith, common_steps)
