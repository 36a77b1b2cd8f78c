use Rattle.std.proofs.Common.{refl}
use Rattle.storage_codec.proofs.codec.integer_key.U64.bytes.Goals as goal

pub returns : goal.returns
returns c = refl
