use Rattle.std.proofs.Common.{refl}
use Rattle.storage_codec.proofs.codec.numbers.BoolFixedSize.fixed_size.Goals as goal

pub returns : goal.returns
returns c = refl
