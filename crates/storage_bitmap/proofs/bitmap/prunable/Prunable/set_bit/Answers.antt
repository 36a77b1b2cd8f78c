use Rattle.std.proofs.Common.{refl, ◌-◌, ◌*◌}
use Rattle.storage_bitmap.proofs.Bits.{place_within, packed_place, packed_set, bits_set}
use Rattle.storage_bitmap.proofs.bitmap.prunable.Prunable.set_bit.Goals as goal

pub write-requires : goal.write-requires
write-requires g c =
    let within = rw (← c.self.view_is) at c.requires.within in
    let kept = rw (← c.self.view_is) at c.requires.kept in
    let place =
    place_within g.row.N c.self.inside.pruned c.self.inside.kept c.args.bit c.self.inside.bytes.items within kept in
    rw c.pruned_bits.ensures (packed_place g.row.N c.self.inside.pruned c.self.inside.kept
    (c.args.bit - c.self.inside.pruned * (8 * g.row.N)) c.self.inside.bytes.items c.self.invariant place)

pub invariant_of-self : goal.invariant_of-self
invariant_of-self g c =
    let within = rw (← c.self.view_is) at c.requires.within in
    let kept = rw (← c.self.view_is) at c.requires.kept in
    let place =
    place_within g.row.N c.self.inside.pruned c.self.inside.kept c.args.bit c.self.inside.bytes.items within kept in
    packed_set g.row.N c.self.inside.pruned c.self.inside.kept
    (c.args.bit - c.pruned_bits.result) c.self.inside.bytes.items c.write.new.bytes.items c.args.value
    c.self.invariant (rw c.pruned_bits.ensures place) c.write.ensures

pub returns : goal.returns
returns g c =
    let within = rw (← c.self.view_is) at c.requires.within in
    let kept = rw (← c.self.view_is) at c.requires.kept in
    let place =
    place_within g.row.N c.self.inside.pruned c.self.inside.kept c.args.bit c.self.inside.bytes.items within kept in
    rw (
      ← c.self.view_is,
      bits_set c.self.inside.kept
          (c.args.bit - c.pruned_bits.result) c.self.inside.bytes.items c.write.new.bytes.items c.args.value
          (rw c.pruned_bits.ensures place) c.write.ensures,
      c.pruned_bits.ensures,
    ) refl
