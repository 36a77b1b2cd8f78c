use Rattle.std.proofs.Common.{refl}
use Rattle.storage_merkle.proofs.merkle.mem.past_the_leaves.Goals as goal

pub returns : goal.returns
returns g c = rw c.new.ensures refl
