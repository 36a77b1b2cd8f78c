use Rattle.std.proofs.Common.{arith}
use Rattle.library_tests.proofs.grafted.no_leaves_updated.Goals as goal

pub update_leaves-requires : goal.update_leaves-requires
update_leaves-requires g c fits p a k leaf inner below among low high = absurd (omega (arith, among.1))
