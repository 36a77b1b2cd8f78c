use Rattle.std.proofs.Common.{rules}
use Rattle.storage_merkle.proofs.merkle.family.Graftable.peak_birth_size.Goals as goal

pub birth-requires : goal.birth-requires
birth-requires g c = rw c.as_u64.ensures c.leftmost_leaf-first.ensures.early

pub returns : goal.returns
returns g c = search rules
