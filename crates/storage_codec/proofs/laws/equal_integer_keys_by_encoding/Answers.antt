use Rattle.std.proofs.lemmas.Slice.Eq.{bytes_eq-Decides}
use Rattle.storage_codec.proofs.laws.equal_integer_keys_by_encoding.Goals as goal

pub returns : goal.returns
returns c x y = bytes_eq-Decides x.0.bytes y.0.bytes
