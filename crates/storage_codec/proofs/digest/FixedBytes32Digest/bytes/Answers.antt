use Rattle.std.proofs.Common.{refl}
use Rattle.storage_codec.proofs.digest.FixedBytes32Digest.bytes.Goals as goal

pub returns : goal.returns
returns c = refl
