use Rattle.std.proofs.Common.{◌≡◌, ◌/◌, ◌^◌, inr, refl}
use Rattle.storage_current.specs.Laws.Grafting.{height_of_power}
use Rattle.storage_current.specs.Snapshots.{Grafting, height, first_chunk}
use Rattle.storage_current.proofs.qmdb.current.proof.with_ops.range_end.Goals as goal

pub returns-then-first-height-clause-why : goal.returns-then-first-height-clause-why
returns-then-first-height-clause-why g c =
    let G : Grafting = record { shape = g.F.Family.shape; bytes = g.row.N } in
    let level : height G ≡ c.height.result = height_of_power G.shape g.row.N c.height.result c.height.ensures.power in
    let index : c.as_u64-first.result / 2 ^ c.height.result ≡ first_chunk G c.args.start =
    rw (level, c.as_u64-first.ensures) refl in
    inr (
      rw (← c.as_u64-first.ensures, ← c.len-len.ensures.value) c.if-first-len.false,
      rw (← index, ← c.pruned_chunks.ensures.value) c.if-first-height.true,
      refl,
    )

pub returns-clause-kept : goal.returns-clause-kept
returns-clause-kept g c =
    let G : Grafting = record { shape = g.F.Family.shape; bytes = g.row.N } in
    let level : height G ≡ c.height.result = height_of_power G.shape g.row.N c.height.result c.height.ensures.power in
    let index : c.as_u64-first.result / 2 ^ c.height.result ≡ first_chunk G c.args.start =
    rw (level, c.as_u64-first.ensures) refl in
    record {
      within = rw (← c.as_u64-first.ensures, ← c.len-len.ensures.value) c.if-first-len.false;
      kept = rw (← index, ← c.pruned_chunks.ensures.value) c.if-first-height.false;
    }
