use Rattle.std.proofs.Common.{refl}
use Rattle.storage_codec.proofs.digest.sha512.Sha512Hasher.fill.Goals as goal

pub returns : goal.returns
returns c = refl
