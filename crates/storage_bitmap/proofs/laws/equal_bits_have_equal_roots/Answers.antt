use Rattle.std.proofs.Common.{◌∙◌, sym}
use Rattle.storage_bitmap.proofs.laws.equal_bits_have_equal_roots.Goals as goal

pub returns : goal.returns
returns g c = λ text h bagging n a b root other bits s t. s.root_is ∙ sym t.root_is
