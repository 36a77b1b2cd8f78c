use Rattle.std.proofs.Common.{◌≡◌, ap, arith}
use Rattle.std.proofs.lemmas.Bool.{false≢true}
use Rattle.storage_merkle.specs.Laws.Kept.{room_after_one, room_for_fewer}
use Rattle.storage_merkle.specs.Laws.Mmb.{mmb_laws}
use Rattle.storage_merkle.specs.Mmb.{mmb}
use Rattle.library_tests.proofs.refused.append_two.Goals as goal

pub unreachable-requires : goal.unreachable-requires
unreachable-requires g c =
    let leaves : c.reserve.new.self.leaves ≡ c.args.tree.now.leaves = ap (λ m. m.leaves) c.reserve.ensures.kept in
    false≢true (rw c.in-Err.is at (c.add_leaf.ensures.succeeds (omega (arith, leaves, c.requires))
    (room_for_fewer mmb mmb_laws c.reserve.new.self 1 2 (omega arith) c.in-Ok.ensures.room)))

pub unreachable-requires-in-Err-add : goal.unreachable-requires-in-Err-add
unreachable-requires-in-Err-add g c =
    let leaves : c.reserve.new.self.leaves ≡ c.args.tree.now.leaves = ap (λ m. m.leaves) c.reserve.ensures.kept in
    let place = rw c.in-Ok-add_leaf.is at c.add_leaf.ensures.place in
    false≢true (rw c.in-Err-add.is at (c.add.ensures.succeeds (omega (arith, leaves, c.requires, place.0))
    (room_after_one mmb c.reserve.new.self c.add_leaf.new.self 1 c.in-Ok.ensures.room place.0 place.1
    c.add_leaf.ensures.room)))
