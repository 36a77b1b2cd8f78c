use Rattle.std.proofs.Common.{arith, refl, ◌*◌, ◌/◌}
use Rattle.storage_bitmap.proofs.Bits.{chunk_positive, packed_room, packed_drop, pruned_some, gone_within}
use Rattle.storage_bitmap.proofs.bitmap.prunable.Prunable.prune_to_bit.Goals as goal

pub overflow_mul-chunks : goal.overflow_mul-chunks
overflow_mul-chunks g c = omega (arith, c.self.invariant.size.1)

pub nonzero_div-chunks : goal.nonzero_div-chunks
nonzero_div-chunks g c = omega (arith, chunk_positive g.row.N c.self.invariant.size)

pub overflow_sub-self : goal.overflow_sub-self
overflow_sub-self g c =
    let at = gone_within g.row.N c.self.inside.pruned c.self.inside.kept
    (c.args.bit / (8 * g.row.N)) c.args.bit c.self.inside.bytes.items
    (rw (← c.self.view_is) at c.requires) refl c.self.invariant.size c.if-chunks-pruned.false in
    at.0

pub remove_front-requires : goal.remove_front-requires
remove_front-requires g c =
    let at = gone_within g.row.N c.self.inside.pruned c.self.inside.kept
    (c.args.bit / (8 * g.row.N)) c.args.bit c.self.inside.bytes.items
    (rw (← c.self.view_is) at c.requires) refl c.self.invariant.size c.if-chunks-pruned.false in
    omega (
      arith,
      at.0,
      (packed_room g.row.N c.self.inside.pruned c.self.inside.kept c.self.inside.bytes.items c.self.invariant).0,
    )

pub invariant_of-self : goal.invariant_of-self
invariant_of-self g c =
    let at = gone_within g.row.N c.self.inside.pruned c.self.inside.kept
    (c.args.bit / (8 * g.row.N)) c.args.bit c.self.inside.bytes.items
    (rw (← c.self.view_is) at c.requires) refl c.self.invariant.size c.if-chunks-pruned.false in
    rw c.remove_front.ensures (packed_drop g.row.N c.self.inside.pruned c.self.inside.kept
    (c.args.bit / (8 * g.row.N)) c.self.inside.bytes.items c.self.invariant (omega arith) at.1)

pub returns : goal.returns
returns g c =
    let at = gone_within g.row.N c.self.inside.pruned c.self.inside.kept
    (c.args.bit / (8 * g.row.N)) c.args.bit c.self.inside.bytes.items
    (rw (← c.self.view_is) at c.requires) refl c.self.invariant.size c.if-chunks-pruned.false in
    rw (← c.self.view_is) (pruned_some g.row.N c.self.inside.pruned c.self.inside.kept
    (c.args.bit / (8 * g.row.N)) c.self.inside.bytes.items c.remove_front.new.bytes.items
    (omega arith) c.remove_front.ensures at.0)
