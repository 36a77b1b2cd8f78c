use Rattle.std.proofs.Common.{ap, inl, arith}
use Rattle.storage_bitmap.proofs.Bits.{chunk_positive}
use Rattle.storage_bitmap.proofs.Standing.{restored, refused, past_limit, whole_restored}
use Rattle.std.proofs.lemmas.Grind.{common_steps}
use Rattle.storage_bitmap.proofs.bitmap.authenticated.merkleized.BitMap+D+N+Merkleized+D.init.Goals as goal

pub returns-then-chunks-clause-why : goal.returns-then-chunks-clause-why
returns-then-chunks-clause-why g c = inl (
  past_limit g.row.N c.args.state.pruned_chunks 4611686018427387904
      (chunk_positive g.row.N c.requires) c.if-chunks.true,
  tt,
)

pub returns-in-Err-clause-why : goal.returns-in-Err-clause-why
returns-in-Err-clause-why g c = refused g.row.N c.args.state.pruned_chunks c.new.result _ c.in-Err.error c.new.ensures
    c.if-chunks.false (rw c.deref.ensures.value at c.in-Err.ensures.why)

pub returns-clause-kept : goal.returns-clause-kept
returns-clause-kept g c = (c.new_with_pruned_chunks-bits.ensures, rw (c.new.ensures, c.deref.ensures.value) at c.in-Ok.ensures.kept)

pub returns-clause-stands : goal.returns-clause-stands
returns-clause-stands g c plain bits s =
    rw c.new_with_pruned_chunks-bits.ensures (restored g.D.Digest.text g.H.Hasher.hash_of
    (g.H.Hasher.bagging c.args.hasher.now) g.row.N c.args.state.pruned_chunks c.new.result c.args.state.pinned.items
    c.deref.result.now c.in-Ok.tree _ c.root_of_bits-root.result bits
    (chunk_positive g.row.N c.requires) c.new.ensures c.deref.ensures.value (ap (λ m. m.leaves) c.in-Ok.ensures.kept)
    c.in-Ok.ensures.stands (rw c.new_with_pruned_chunks-bits.ensures at (c.root_of_bits-root.ensures plain bits)) s)

pub invariant_of-result : goal.invariant_of-result
invariant_of-result g c =
    whole_restored g.row.N c.args.state.pruned_chunks c.new.result _ c.new_with_pruned_chunks-bits.result c.in-Ok.tree c.requires
    (chunk_positive g.row.N c.requires) c.if-chunks.false c.new.ensures c.new_with_pruned_chunks-bits.ensures c.in-Ok.ensures.kept

pub new_with_pruned_chunks-bits-requires : goal.new_with_pruned_chunks-bits-requires
new_with_pruned_chunks-bits-requires g c = grind (arith, common_steps)

pub root_of_bits-root-requires : goal.root_of_bits-root-requires
root_of_bits-root-requires g c = grind arith

pub returns-clause-fits : goal.returns-clause-fits
returns-clause-fits g c = grind (arith, common_steps)
