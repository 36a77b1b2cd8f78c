use Rattle.std.proofs.Common.{sym, ◌∙◌, ◌*◌, ◌-◌}
use Rattle.storage_bitmap.proofs.Bits.{place_within, packed_place, get_or-bits_in}
use Rattle.storage_bitmap.proofs.bitmap.prunable.Prunable.get_bit.Goals as goal

pub is_set-requires : goal.is_set-requires
is_set-requires g c =
    let within = rw (← c.self.view_is) at c.requires.within in
    let kept = rw (← c.self.view_is) at c.requires.kept in
    let place =
    place_within g.row.N c.self.inside.pruned c.self.inside.kept c.args.bit c.self.inside.bytes.items within kept in
    rw (c.deref.ensures.value, c.pruned_bits.ensures) (packed_place g.row.N c.self.inside.pruned c.self.inside.kept
    (c.args.bit - c.self.inside.pruned * (8 * g.row.N)) c.self.inside.bytes.items c.self.invariant place)

pub returns : goal.returns
returns g c =
    let within = rw (← c.self.view_is) at c.requires.within in
    let kept = rw (← c.self.view_is) at c.requires.kept in
    let place =
    place_within g.row.N c.self.inside.pruned c.self.inside.kept c.args.bit c.self.inside.bytes.items within kept in
    rw (← c.self.view_is) (c.is_set.ensures ∙ rw (c.deref.ensures.value, c.pruned_bits.ensures) (sym (get_or-bits_in
    c.self.inside.bytes.items c.self.inside.kept (c.args.bit - c.self.inside.pruned * (8 * g.row.N)) place)))
