use Rattle.std.proofs.Common.{arith, ◌*◌, ◌/◌, ◌≤◌, ◌∙◌, refl, ap, max, inl, inr}
use Rattle.std.proofs.lemmas.Nat.{le-div}
use Rattle.std.proofs.Math.Nat.{div-mul-le_self}
use Rattle.storage_bitmap.specs.Chunks.{bit_count}
use Rattle.storage_bitmap.proofs.Bits.{chunk_positive}
use Rattle.storage_bitmap.proofs.Standing.{pruned_stands, whole_pruned}
use Rattle.storage_bitmap.proofs.bitmap.authenticated.merkleized.BitMap+D+N+Merkleized+D.prune_to_bit.Goals as goal

pub invariant_of-self-2 : goal.invariant_of-self-2
invariant_of-self-2 g c =
    let within = rw (← c.self.view_is) at c.requires in
    let m = c.in_default.ensures in
    let most : c.args.bit / (8 * g.row.N) * (8 * g.row.N) ≤ bit_count g.row.N c.self.inside.bits =
    omega (arith, within, div-mul-le_self c.args.bit (8 * g.row.N)) in
    rw c.prune_to_bit.ensures (whole_pruned g.row.N c.self.inside.bits c.self.inside.tree c.prune.new.self
    (c.args.bit / (8 * g.row.N)) (omega (arith, m.fits, c.new.ensures)) most (m.place.0
    ∙ ap (max c.self.inside.tree.boundary) c.new.ensures) m.place.1 c.self.invariant)

pub returns-clause-stands : goal.returns-clause-stands
returns-clause-stands g c h bagging bits s =
    let within = rw (← c.self.view_is) at c.requires in
    let m = c.in_default.ensures in
    let most : c.args.bit / (8 * g.row.N) * (8 * g.row.N) ≤ bit_count g.row.N c.self.inside.bits =
    omega (arith, within, div-mul-le_self c.args.bit (8 * g.row.N)) in
    rw c.prune_to_bit.ensures (pruned_stands g.D.Digest.text h bagging g.row.N c.self.inside.bits c.self.inside.tree
    c.prune.new.self c.self.inside.state c.self.inside.state.root
    (c.args.bit / (8 * g.row.N)) bits most m.stands m.place.1 (rw (← c.self.view_is) at s))

pub returns-clause-root : goal.returns-clause-root
returns-clause-root g c = rw (← c.self.view_is) refl

pub returns-in-Err-clause-why : goal.returns-in-Err-clause-why
returns-in-Err-clause-why g c =
    let within = rw (← c.self.view_is) at c.requires in
    let most : c.args.bit / (8 * g.row.N) * (8 * g.row.N) ≤ bit_count g.row.N c.self.inside.bits =
    omega (arith, within, div-mul-le_self c.args.bit (8 * g.row.N)) in
    let some = chunk_positive g.row.N c.self.invariant.size in
    let there = le-div (c.args.bit / (8 * g.row.N)) (bit_count g.row.N c.self.inside.bits) (8 * g.row.N) (omega arith)
    most in
    elim c.in-Err.ensures.why [
      | inl far ↦ absurd (omega (arith, far.0, there, c.self.invariant.state, c.new.ensures))
      | inr full ↦ full.1
    ]
