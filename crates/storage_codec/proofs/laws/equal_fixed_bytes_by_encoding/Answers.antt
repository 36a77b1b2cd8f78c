use Rattle.std.proofs.lemmas.Slice.Eq.{bytes_eq-Decides}
use Rattle.storage_codec.proofs.laws.equal_fixed_bytes_by_encoding.Goals as goal

pub returns : goal.returns
returns g c x y = bytes_eq-Decides x.bytes y.bytes
