use Rattle.std.proofs.Common.{arith, ◌-◌, ◌*◌, ◌/◌, ◌≤◌, ap, refl}
use Rattle.std.proofs.lemmas.Nat.{le-div}
use Rattle.storage_bitmap.proofs.Bits.{chunk_positive}
use Rattle.storage_bitmap.proofs.Dirty.{marked, marked_within}
use Rattle.storage_bitmap.proofs.Standing.{written, whole_set}
use Rattle.storage_bitmap.proofs.bitmap.authenticated.unmerkleized.BitMap+D+N+Unmerkleized.set_bit.Goals as goal

pub overflow_mul-chunk : goal.overflow_mul-chunk
overflow_mul-chunk g c = omega (arith, c.self.invariant.size.1)

pub nonzero_div-chunk : goal.nonzero_div-chunk
nonzero_div-chunk g c = omega (arith, chunk_positive g.row.N c.self.invariant.size)

pub invariant_of-self-2 : goal.invariant_of-self-2
invariant_of-self-2 g c =
    let i = c.self.invariant in
    let low = rw (← c.self.view_is) at c.requires.kept in
    let some = chunk_positive g.row.N i.size in
    let m = c.in_ok-mark.ensures in
    let first : c.self.inside.bits.pruned ≤ c.args.bit / (8 * g.row.N) =
    le-div c.self.inside.bits.pruned c.args.bit (8 * g.row.N) (omega arith) low in
    rw c.set_bit.ensures (whole_set g.row.N c.self.inside.bits c.self.inside.tree
    (c.args.bit - c.self.inside.bits.pruned * (8 * g.row.N)) c.args.value _ _ i
    (marked_within c.self.inside.state.dirty.keys c.mark.new.dirty.keys
    (c.args.bit / (8 * g.row.N)) c.self.inside.bits.pruned c.self.inside.tree.leaves
    (λ l. m.marked (omega (arith, l, c.as_u64-leaves.ensures, c.leaves.ensures)))
    (λ l. ap (λ d. d.keys) (m.others (omega (arith, l, c.as_u64-leaves.ensures, c.leaves.ensures)))) first i.state))

pub returns-clause-value : goal.returns-clause-value
returns-clause-value g c = rw (← c.self.view_is) (c.set_bit.ensures, refl)

pub returns-clause-stands : goal.returns-clause-stands
returns-clause-stands g c h bits s =
    let i = c.self.invariant in
    let low = rw (← c.self.view_is) at c.requires.kept in
    let m = c.in_ok-mark.ensures in
    let d = marked c.self.inside.state.dirty.keys c.mark.new.dirty.keys
    (c.args.bit / (8 * g.row.N)) c.self.inside.tree.leaves
    (λ l. m.marked (omega (arith, l, c.as_u64-leaves.ensures, c.leaves.ensures)))
    (λ l. ap (λ d. d.keys) (m.others (omega (arith, l, c.as_u64-leaves.ensures, c.leaves.ensures)))) in
    rw c.set_bit.ensures (written g.D.Digest.text h g.row.N c.self.inside.tree c.self.inside.bits i.order i.leaves
    i.boundary c.self.inside.state c.self.inside.state.dirty.keys bits
    c.mark.new.dirty.keys c.args.bit c.args.value _ (chunk_positive g.row.N i.size) low d.0 d.1
    (rw (← c.self.view_is) at s))
