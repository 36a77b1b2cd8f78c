use Rattle.std.proofs.Common.{arith, rules}
use Rattle.storage_merkle.specs.Laws.Multiples.{pow_le}
use Rattle.reference.proofs.count.graftable.Goals as goal

pub leaves_at_birth-birth-requires : goal.leaves_at_birth-birth-requires
leaves_at_birth-birth-requires g c = omega (arith, pow_le c.args.height 62 c.requires)

pub returns-else-leaves-birth : goal.returns-else-leaves-birth
returns-else-leaves-birth g c = search rules
