use Rattle.std.proofs.Common.{refl}
use Rattle.storage_bitmap.proofs.Bits.{none_packed, none_bits}
use Rattle.storage_bitmap.proofs.bitmap.prunable.Prunable.new_with_pruned_chunks.Goals as goal

pub invariant_of-result : goal.invariant_of-result
invariant_of-result g c = rw c.new.ensures.items (none_packed g.row.N c.args.chunks c.requires.size c.requires.few)

pub returns : goal.returns
returns g c = rw (c.new.ensures.items, none_bits) refl
