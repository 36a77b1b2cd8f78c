use Rattle.std.proofs.Common.{◌≡◌, ◌∙◌, arith, sym, inl, inr, refl, min}
use Rattle.storage_current.specs.Laws.Grafting.{height_of_power}
use Rattle.storage_current.specs.Snapshots.{Grafting, height}
use Rattle.storage_current.proofs.Roots.{AreCounts, counts_at}
use Rattle.storage_current.proofs.Built.{built_inactive, built_range, built_current}
use Rattle.storage_current.proofs.qmdb.current.proof.RangeProof.build.Goals as goal
use Rattle.storage_current.proofs.qmdb.current.proof.RangeProof.build.Goals.{then-len-leaves-via-then-len-leaves, then-len-leaves-via-else-len-leaves+then-pruned_chunks-counts}

pub returns-then-len-leaves-clause-why : goal.returns-then-len-leaves-clause-why
returns-then-len-leaves-clause-why g c =
    let S = g.F.Family.shape in
    let G : Grafting = record { shape = S; bytes = g.row.N } in
    let level : height G ≡ c.height-height.result =
    height_of_power S g.row.N c.height-height.result c.height-height.ensures.power in
    let leaves : c.as_u64-leaves.result ≡ c.args.plan.leaves = c.as_u64-leaves.ensures ∙ c.leaves.ensures.value in
    let counts : AreCounts G c.as_u64-leaves.result c.over-counts.result.complete c.over-counts.result.graftable
    c.over-counts.result.next_bit = counts_at G c.height-height.result c.as_u64-leaves.result _ _ _ level
    c.over-counts.ensures.complete c.over-counts.ensures.graftable c.over-counts.ensures.next_bit in
    inr (inl (
      c.in-Ok.ensures.answered,
      λ bits. elim c.then-len-leaves.branch [
        | then-len-leaves-via-then-len-leaves w ↦
            absurd (w.if-len-leaves.true (c.len-len.ensures.value ∙ bits.all ∙ sym leaves))
        | then-len-leaves-via-else-len-leaves+then-pruned_chunks-counts w ↦
            let kept = rw (← leaves, ← counts.graftable_is) at bits.pruned in
            absurd (omega (arith, kept, w.if-pruned_chunks-counts.true, w.pruned_chunks.ensures.value))
      ],
      tt,
    ))

pub returns-clause-own : goal.returns-clause-own
returns-clause-own g c = λ s parts.
    let S = g.F.Family.shape in
    let h = g.H.Hasher.hash_of in
    let text = g.D.Digest.text in
    let G : Grafting = record { shape = S; bytes = g.row.N } in
    let level : height G ≡ c.height-height.result =
    height_of_power S g.row.N c.height-height.result c.height-height.ensures.power in
    let leaves : c.as_u64-leaves.result ≡ c.args.plan.leaves = c.as_u64-leaves.ensures ∙ c.leaves.ensures.value in
    let counts : AreCounts G c.as_u64-leaves.result c.over-counts.result.complete c.over-counts.result.graftable
    c.over-counts.result.next_bit = counts_at G c.height-height.result c.as_u64-leaves.result _ _ _ level
    c.over-counts.ensures.complete c.over-counts.ensures.graftable c.over-counts.ensures.next_bit in
    let clamp : c.min.result ≡ min c.args.floor c.args.plan.leaves =
    c.min.ensures ∙ rw (c.as_u64.ensures, leaves) refl in
    let inactive = built_inactive text _ h G c.args.plan _ c.args.floor
    (text c.args.ops_root) s parts c.as_u64-leaves.result c.min.result c.height-height.result
    c.chunk_aligned_inactive_peaks-inactive.result level leaves clamp c.chunk_aligned_inactive_peaks-inactive.ensures in
    let range = built_range text _ h G c.args.plan _ c.args.floor (text c.args.ops_root) s parts c.hasher.result.bagging
    c.chunk_aligned_inactive_peaks-inactive.result _ c.hasher.ensures inactive c.in-Ok.ensures.own in
    built_current text _ h G c.args.plan _ c.args.floor (text c.args.ops_root) s parts _ _ _ _ _ _ (rw leaves at counts)
    (omega (arith, c.if-pruned_chunks-counts.false, c.pruned_chunks.ensures.value)) c.over-counts.ensures.within
    range _ c.chunk_digest.ensures c.pending.ensures _ c.chunk_digest-2.ensures c.partial.ensures

pub returns-clause-bits : goal.returns-clause-bits
returns-clause-bits g c =
    let S = g.F.Family.shape in
    let G : Grafting = record { shape = S; bytes = g.row.N } in
    let level : height G ≡ c.height-height.result =
    height_of_power S g.row.N c.height-height.result c.height-height.ensures.power in
    let leaves : c.as_u64-leaves.result ≡ c.args.plan.leaves = c.as_u64-leaves.ensures ∙ c.leaves.ensures.value in
    let counts : AreCounts G c.as_u64-leaves.result c.over-counts.result.complete c.over-counts.result.graftable
    c.over-counts.result.next_bit = counts_at G c.height-height.result c.as_u64-leaves.result _ _ _ level
    c.over-counts.ensures.complete c.over-counts.ensures.graftable c.over-counts.ensures.next_bit in
    record {
      all = sym c.len-len.ensures.value ∙ c.if-len-leaves.false ∙ leaves;
      pruned = rw (← leaves, ← counts.graftable_is)
          (omega (arith, c.if-pruned_chunks-counts.false, c.pruned_chunks.ensures.value));
    }
