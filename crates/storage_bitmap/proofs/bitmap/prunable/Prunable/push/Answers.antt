use Rattle.std.proofs.Common.{arith, refl}
use Rattle.storage_bitmap.proofs.Bits.{packed_full, packed_push, packed_room, next_clear, pushed_place, bits_push, length-bits_in}
use Rattle.storage_bitmap.proofs.bitmap.prunable.Prunable.push.Goals as goal

pub invariant_of-self-2 : goal.invariant_of-self-2
invariant_of-self-2 g c =
    let few = rw (← c.self.view_is) at c.requires in
    packed_push g.row.N c.self.inside.pruned c.self.inside.kept c.self.inside.bytes.items c.make_room.new.bytes.items
    c.fill.new.bytes.items c.args.bit
    c.self.invariant (omega (arith, few, length-bits_in c.self.inside.bytes.items c.self.inside.kept))
    c.in_ok-make_room.ensures.ok c.fill.ensures

pub returns-clause-ok : goal.returns-clause-ok
returns-clause-ok g c =
    rw (
      ← c.self.view_is,
      bits_push c.self.inside.kept c.self.inside.bytes.items c.make_room.new.bytes.items c.fill.new.bytes.items
          c.args.bit g.row.N
          c.in_ok-make_room.ensures.ok c.fill.ensures,
    ) refl

pub make_room-requires-clause-few : goal.make_room-requires-clause-few
make_room-requires-clause-few g c = omega (
  arith,
  (packed_room g.row.N c.self.inside.pruned c.self.inside.kept c.self.inside.bytes.items c.self.invariant).1,
  c.self.invariant.few,
  c.self.invariant.size.1,
)

pub fill-requires-clause-within : goal.fill-requires-clause-within
fill-requires-clause-within g c = pushed_place g.row.N c.self.inside.pruned c.self.inside.kept c.self.inside.bytes.items
    c.make_room.new.bytes.items c.self.invariant c.in_ok-make_room.ensures.ok

pub fill-requires-clause-clear : goal.fill-requires-clause-clear
fill-requires-clause-clear g c = next_clear g.row.N c.self.inside.pruned c.self.inside.kept c.self.inside.bytes.items
    c.make_room.new.bytes.items c.self.invariant c.in_ok-make_room.ensures.ok

pub make_room-requires-clause-whole : goal.make_room-requires-clause-whole
make_room-requires-clause-whole g c =
    packed_full g.row.N c.self.inside.pruned c.self.inside.kept c.self.inside.bytes.items c.self.invariant
