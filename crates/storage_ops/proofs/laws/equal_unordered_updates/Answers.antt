use Rattle.std.proofs.Common.{refl}
use Rattle.storage_ops.proofs.laws.equal_unordered_updates.Goals as goal

pub returns-clause-parts : goal.returns-clause-parts
returns-clause-parts g c x y = refl
