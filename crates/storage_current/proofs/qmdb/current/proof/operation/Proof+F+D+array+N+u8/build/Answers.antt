use Rattle.std.proofs.Common.{◌≡◌, ◌+◌, ◌/◌, ◌^◌, arith, inl, inr, refl, ap, subst}
use Rattle.storage_ops.specs.declared.qmdb.error.Error.TheVariants.{OperationPruned}
use Rattle.storage_current.specs.Laws.Grafting.{height_of_power}
use Rattle.storage_current.specs.Snapshots.{Grafting, height, first_chunk}
use Rattle.storage_current.specs.Held.{range_proof_of}
use Rattle.storage_current.proofs.Heights.{chunk_of}
use Rattle.storage_current.proofs.Built.{built_operation, moved_plan}
use Rattle.storage_current.proofs.qmdb.current.proof.operation.«Proof+F+D+array+N+u8».build.Goals as goal

pub get_chunk-requires : goal.get_chunk-requires
get_chunk-requires g c = (
  omega (arith, c.pruned_chunks-pruned.ensures.size.1),
  (
    rw (← c.pruned_chunks-pruned.ensures.value) c.if-chunk-pruned.false,
    rw c.as_u64.ensures (chunk_of g.row.N c.height.result c.location-loc.result c.args.plan.leaves _
        c.height.ensures.power c.location-loc.ensures.within (rw c.into.ensures.value at c.in-Ok.ensures.bits.all)),
  ),
)

pub returns-then-chunk-pruned-clause-why : goal.returns-then-chunk-pruned-clause-why
returns-then-chunk-pruned-clause-why g c =
    let G : Grafting = record { shape = g.F.Family.shape; bytes = g.row.N } in
    let level : height G ≡ c.height.result = height_of_power G.shape g.row.N c.height.result c.height.ensures.power in
    let index : c.as_u64.result / 2 ^ c.height.result ≡ first_chunk G c.args.plan.start =
    rw (level, c.as_u64.ensures, c.location-loc.ensures.value) refl in
    inl (
      rw (← index, ← c.pruned_chunks-pruned.ensures.value) c.if-chunk-pruned.true,
      ap OperationPruned c.location-loc.ensures.value,
    )

pub returns-in-Ok-clause-own : goal.returns-in-Ok-clause-own
returns-in-Ok-clause-own g c = λ s parts.
    let h = g.H.Hasher.hash_of in
    let text = g.D.Digest.text in
    let G : Grafting = record { shape = g.F.Family.shape; bytes = g.row.N } in
    let level : height G ≡ c.height.result = height_of_power G.shape g.row.N c.height.result c.height.ensures.power in
    let index : c.as_u64.result / 2 ^ c.height.result ≡ first_chunk G c.args.plan.start =
    rw (level, c.as_u64.ensures, c.location-loc.ensures.value) refl in
    let range = moved_plan text _ h G c.args.plan c.into.result (g.R.Readable.retained c.args.status.now) c.args.floor
    (text c.args.ops_root) (range_proof_of text c.in-Ok.range_proof) c.into.ensures.value c.in-Ok.ensures.own s parts in
    let one = subst (λ q. q.end ≡ q.start + 1) c.into.ensures.value c.into.ensures.one in
    built_operation text _ h G c.args.plan (g.R.Readable.retained c.args.status.now) c.args.floor
    (text c.args.ops_root) s parts _ _ _ _ c.location-loc.ensures.value one index
    (rw (← c.pruned_chunks-pruned.ensures.value) c.if-chunk-pruned.false) c.get_chunk.ensures range

pub returns-in-Ok-clause-answered : goal.returns-in-Ok-clause-answered
returns-in-Ok-clause-answered g c = rw c.into.ensures.value at c.in-Ok.ensures.answered

pub returns-in-Ok-clause-kept : goal.returns-in-Ok-clause-kept
returns-in-Ok-clause-kept g c =
    let G : Grafting = record { shape = g.F.Family.shape; bytes = g.row.N } in
    let level : height G ≡ c.height.result = height_of_power G.shape g.row.N c.height.result c.height.ensures.power in
    let index : c.as_u64.result / 2 ^ c.height.result ≡ first_chunk G c.args.plan.start =
    rw (level, c.as_u64.ensures, c.location-loc.ensures.value) refl in
    rw (← index, ← c.pruned_chunks-pruned.ensures.value) c.if-chunk-pruned.false

pub returns-in-Err-clause-why : goal.returns-in-Err-clause-why
returns-in-Err-clause-why g c =
    let G : Grafting = record { shape = g.F.Family.shape; bytes = g.row.N } in
    let level : height G ≡ c.height.result = height_of_power G.shape g.row.N c.height.result c.height.ensures.power in
    let index : c.as_u64.result / 2 ^ c.height.result ≡ first_chunk G c.args.plan.start =
    rw (level, c.as_u64.ensures, c.location-loc.ensures.value) refl in
    inr (
      rw (← index, ← c.pruned_chunks-pruned.ensures.value) c.if-chunk-pruned.false,
      rw c.into.ensures.value at c.in-Err.ensures.why,
    )
