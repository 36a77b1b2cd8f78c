use Rattle.std.proofs.Common.{arith, inl, inr, refl}
use Rattle.storage_current.proofs.Required.{counted, consistent, inconsistent, queried_none, queried_some, are_told, there_none, there_some, gone}
use Rattle.storage_current.proofs.qmdb.current.required.required_chunks.Goals as goal
use Rattle.storage_current.proofs.qmdb.current.required.required_chunks.Goals.{then-complete-graftable-gt1-via-then-complete-graftable-gt1, then-complete-graftable-gt1-via-else-complete-graftable-gt1+then-pruned_chunks-graftable, then-index-leaves-via-then-index-leaves, then-index-leaves-via-else-index-leaves+then-index-bitmap_len, in-Some+else-index-leaves+else-index-bitmap_len+else-chunk-pruned_chunks, in-None}

pub returns-then-complete-graftable-gt1-clause-why : goal.returns-then-complete-graftable-gt1-clause-why
returns-then-complete-graftable-gt1-clause-why g c =
    let counts = counted g.F.Family.shape g.met.F.Family.laws g.row.N c.height-height.result c.args.ops_leaves
    c.as_u64-leaves.result c.args.bitmap_len c.graftable_chunks.result c.min-graftable.result
    c.height-height.ensures.power c.as_u64-leaves.ensures c.graftable_chunks.ensures c.min-graftable.ensures in
    inl (
      elim c.then-complete-graftable-gt1.branch [
        | then-complete-graftable-gt1-via-then-complete-graftable-gt1 w ↦
            inconsistent _ _ _ _ _ _ _ counts (inl w.if-complete-graftable-gt1.true)
        | then-complete-graftable-gt1-via-else-complete-graftable-gt1+then-pruned_chunks-graftable w ↦
            inconsistent _ _ _ _ _ _ _ counts (inr w.if-pruned_chunks-graftable.true)
      ],
      tt,
    )

pub returns-then-index-leaves-clause-why : goal.returns-then-index-leaves-clause-why
returns-then-index-leaves-clause-why g c =
    let counts = counted g.F.Family.shape g.met.F.Family.laws g.row.N c.height-height.result c.args.ops_leaves
    c.as_u64-leaves.result c.args.bitmap_len c.graftable_chunks.result c.min-graftable.result
    c.height-height.ensures.power c.as_u64-leaves.ensures c.graftable_chunks.ensures c.min-graftable.ensures in
    let ok = consistent _ _ _ _ _ _ _ counts c.if-complete-graftable-gt1.false c.if-pruned_chunks-graftable.false in
    inr (
      ok,
      (
        c.in-Some.loc,
        c.in-Some.is,
        inl (
          elim c.then-index-leaves.branch [
            | then-index-leaves-via-then-index-leaves w ↦
                inl (omega (arith, w.if-index-leaves.true, c.as_u64-index.ensures, c.as_u64-leaves.ensures))
            | then-index-leaves-via-else-index-leaves+then-index-bitmap_len w ↦
                inr (omega (arith, w.if-index-bitmap_len.true, c.as_u64-index.ensures))
          ],
          refl,
        ),
      ),
    )

pub returns-then-chunk-pruned_chunks-clause-why : goal.returns-then-chunk-pruned_chunks-clause-why
returns-then-chunk-pruned_chunks-clause-why g c =
    let counts = counted g.F.Family.shape g.met.F.Family.laws g.row.N c.height-height.result c.args.ops_leaves
    c.as_u64-leaves.result c.args.bitmap_len c.graftable_chunks.result c.min-graftable.result
    c.height-height.ensures.power c.as_u64-leaves.ensures c.graftable_chunks.ensures c.min-graftable.ensures in
    let ok = consistent _ _ _ _ _ _ _ counts c.if-complete-graftable-gt1.false c.if-pruned_chunks-graftable.false in
    let past = gone _ _ _ _ _ _ _ counts c.in-Some.loc c.as_u64-index.result c.as_u64-index.ensures
    c.if-chunk-pruned_chunks.true in
    inr (
      ok,
      (
        c.in-Some.loc,
        c.in-Some.is,
        inr (
          omega (
            arith,
            c.if-index-leaves.false,
            c.as_u64-index.ensures,
            c.as_u64-leaves.ensures,
          ),
          omega (arith, c.if-index-bitmap_len.false, c.as_u64-index.ensures),
          past,
          refl,
        ),
      ),
    )

pub returns-clause-chunks : goal.returns-clause-chunks
returns-clause-chunks g c =
    let counts = counted g.F.Family.shape g.met.F.Family.laws g.row.N c.height-height.result c.args.ops_leaves
    c.as_u64-leaves.result c.args.bitmap_len c.graftable_chunks.result c.min-graftable.result
    c.height-height.ensures.power c.as_u64-leaves.ensures c.graftable_chunks.ensures c.min-graftable.ensures in
    are_told _ _ _ _ _ _ c.args.pruned_chunks counts c.args.location c.match-location.queried c.present.result
    c.present-2.result c.power.result c.if-complete-graftable-gt1.false
    (elim c.match-location.branch [
      | in-Some+else-index-leaves+else-index-bitmap_len+else-chunk-pruned_chunks w ↦
          queried_some _ _ _ _ _ _ c.args.pruned_chunks counts c.args.location c.match-location.queried w.in-Some.loc
          w.as_u64-index.result w.in-Some.is w.as_u64-index.ensures w.if-index-bitmap_len.false
          (rw w.queried-is w.present-queried.ensures)
      | in-None w ↦ queried_none _ _ _ _ _ _ c.args.pruned_chunks counts c.args.location c.match-location.queried
          w.in-None.is w.queried-is
    ]) c.present.ensures c.power.ensures c.present-2.ensures

pub returns-clause-consistent : goal.returns-clause-consistent
returns-clause-consistent g c =
    let counts = counted g.F.Family.shape g.met.F.Family.laws g.row.N c.height-height.result c.args.ops_leaves
    c.as_u64-leaves.result c.args.bitmap_len c.graftable_chunks.result c.min-graftable.result
    c.height-height.ensures.power c.as_u64-leaves.ensures c.graftable_chunks.ensures c.min-graftable.ensures in
    consistent _ _ _ _ _ _ _ counts c.if-complete-graftable-gt1.false c.if-pruned_chunks-graftable.false

pub returns-clause-there : goal.returns-clause-there
returns-clause-there g c =
    let counts = counted g.F.Family.shape g.met.F.Family.laws g.row.N c.height-height.result c.args.ops_leaves
    c.as_u64-leaves.result c.args.bitmap_len c.graftable_chunks.result c.min-graftable.result
    c.height-height.ensures.power c.as_u64-leaves.ensures c.graftable_chunks.ensures c.min-graftable.ensures in
    elim c.match-location.branch [
      | in-Some+else-index-leaves+else-index-bitmap_len+else-chunk-pruned_chunks w ↦
          there_some _ _ _ _ _ _ c.args.pruned_chunks counts c.args.location w.in-Some.loc w.as_u64-index.result
          c.as_u64-leaves.result w.in-Some.is w.as_u64-index.ensures c.as_u64-leaves.ensures w.if-index-leaves.false
          w.if-index-bitmap_len.false w.if-chunk-pruned_chunks.false
      | in-None w ↦ there_none _ _ _ _ _ _ c.args.pruned_chunks counts c.args.location w.in-None.is
    ]
