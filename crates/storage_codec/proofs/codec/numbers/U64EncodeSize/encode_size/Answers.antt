use Rattle.std.proofs.Common.{refl}
use Rattle.storage_codec.proofs.codec.numbers.U64EncodeSize.encode_size.Goals as goal

pub returns : goal.returns
returns c = refl
