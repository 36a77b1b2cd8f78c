use Rattle.std.proofs.Common.{arith}
use Rattle.storage_bitmap.proofs.Bits.{length-bits_in}
use Rattle.storage_bitmap.proofs.bitmap.prunable.PrunableReadable.len.Goals as goal

pub returns-clause-value : goal.returns-clause-value
returns-clause-value g c = rw (← c.self.view_is)
    (omega (arith, c.pruned_bits.ensures, length-bits_in c.self.inside.bytes.items c.self.inside.kept))
