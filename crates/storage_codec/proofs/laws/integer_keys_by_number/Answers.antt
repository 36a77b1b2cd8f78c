use Rattle.storage_codec.specs.Laws.Order.{cmp_by_number_8}
use Rattle.storage_codec.proofs.laws.integer_keys_by_number.Goals as goal

pub returns : goal.returns
returns c x y fx fy = cmp_by_number_8 x.0.bytes y.0.bytes x.0.full y.0.full fx fy
