use Rattle.std.proofs.Common.{arith}
use Rattle.storage_merkle.specs.Laws.Shape.{chunk_birth, graftable_none, graftable_some}
use Rattle.storage_current.proofs.qmdb.current.grafting.positions.graftable_chunks.Goals as goal

pub birth-birth-requires : goal.birth-birth-requires
birth-birth-requires g c = chunk_birth g.F.Family.shape g.met.F.Family.laws c.args.height c.requires.high

pub returns-then-leaves-birth : goal.returns-then-leaves-birth
returns-then-leaves-birth g c = graftable_none g.F.Family.shape g.met.F.Family.laws c.args.leaves c.args.height
    (omega (arith, c.birth-birth.ensures))

pub returns-else-leaves-birth : goal.returns-else-leaves-birth
returns-else-leaves-birth g c = rw c.birth-birth.ensures (graftable_some g.F.Family.shape g.met.F.Family.laws
    c.args.leaves c.args.height (omega (arith, c.birth-birth.ensures)))
