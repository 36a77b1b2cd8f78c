use Rattle.std.proofs.Common.{◌≡◌, ◌<◌, ◌∙◌, ◌+◌, ◌/◌, ◌^◌, length, arith, inl, inr, refl, ap, subst, rules}
use Rattle.storage_merkle.specs.Plans.{PlanOf}
use Rattle.storage_current.specs.Laws.Grafting.{height_of_power}
use Rattle.storage_current.specs.Held.{range_proof_of}
use Rattle.storage_current.specs.Served.{held_at, plan_over}
use Rattle.storage_current.specs.Snapshots.{Grafting, height, first_chunk}
use Rattle.storage_current.proofs.Built.{built_operation}
use Rattle.storage_current.proofs.Fetching.{counts_none}
use Rattle.storage_current.proofs.Heights.{chunk_of}
use Rattle.storage_current.proofs.Making.{planned_ok, planned_err, refused_why, plan_no_fault, made_why, servable, served_own}
use Rattle.storage_current.proofs.qmdb.current.proof.operation.from_store.«Proof+F+D+array+N+u8».new.Goals as goal

pub returns-then-chunk-pruned-clause-why : goal.returns-then-chunk-pruned-clause-why
returns-then-chunk-pruned-clause-why g c =
    let G : Grafting = record { shape = g.F.Family.shape; bytes = g.row.N } in
    let level : height G ≡ c.height.result = height_of_power G.shape g.row.N c.height.result c.height.ensures.power in
    let index : c.as_u64.result / 2 ^ c.height.result ≡ first_chunk G c.args.loc = rw (level, c.as_u64.ensures) refl in
    inl (rw (← index, ← c.pruned_chunks-pruned.ensures.value) c.if-chunk-pruned.true, refl)

pub returns-in-Err-clause-why : goal.returns-in-Err-clause-why
returns-in-Err-clause-why g c =
    let G : Grafting = record { shape = g.F.Family.shape; bytes = g.row.N } in
    let level : height G ≡ c.height.result = height_of_power G.shape g.row.N c.height.result c.height.ensures.power in
    let index : c.as_u64.result / 2 ^ c.height.result ≡ first_chunk G c.args.loc = rw (level, c.as_u64.ensures) refl in
    inr (rw (← index, ← c.pruned_chunks-pruned.ensures.value) c.if-chunk-pruned.false, inl c.in-Err.ensures.why)

pub returns-in-Memory-clause-why : goal.returns-in-Memory-clause-why
returns-in-Memory-clause-why g c =
    let G : Grafting = record { shape = g.F.Family.shape; bytes = g.row.N } in
    let level : height G ≡ c.height.result = height_of_power G.shape g.row.N c.height.result c.height.ensures.power in
    let index : c.as_u64.result / 2 ^ c.height.result ≡ first_chunk G c.args.loc = rw (level, c.as_u64.ensures) refl in
    inr (rw (← index, ← c.pruned_chunks-pruned.ensures.value) c.if-chunk-pruned.false, inr (inr refl))

pub returns-in_default : goal.returns-in_default
returns-in_default g c =
    let G : Grafting = record { shape = g.F.Family.shape; bytes = g.row.N } in
    let level : height G ≡ c.height.result = height_of_power G.shape g.row.N c.height.result c.height.ensures.power in
    let index : c.as_u64.result / 2 ^ c.height.result ≡ first_chunk G c.args.loc = rw (level, c.as_u64.ensures) refl in
    let refused = planned_err _ c.in-Err-new.error c.in-Err-new.ensures c.in_default.not-Memory in
    let no_fault = plan_no_fault g.row.F.Denot c.in-Ok.leaves c.args.loc (c.args.loc + 1) c.in-Err-new.error refused in
    record {
      own = tt;
      made = tt;
      kept = tt;
      why = inr (
        rw (← index, ← c.pruned_chunks-pruned.ensures.value) c.if-chunk-pruned.false,
        refused_why
            (g.S.Storage.nodes c.args.storage.now) (g.S.Storage.node c.args.storage.now) G c.args.loc (c.args.loc + 1)
            (g.R.Readable.retained c.args.status.now) (g.S.Storage.may_fail c.args.storage.now) c.in-Ok.leaves
            c.in-Err-new.error c.in-Ok.ensures.tree refused,
      );
      failures = counts_none _ no_fault;
      same_size = refl;
      same = λ p. refl;
    }

pub get_chunk-requires : goal.get_chunk-requires
get_chunk-requires g c =
    let plan =
    planned_ok _ c.in-Ok-new.plan (plan_over c.in-Ok.leaves c.args.loc (c.args.loc + 1)) c.in-Ok-new.ensures in
    let at : c.location-loc.result ≡ c.args.loc = c.location-loc.ensures.value ∙ ap (λ (p : PlanOf). p.start) plan.1 in
    let within : c.args.loc < c.in-Ok-new.plan.leaves =
    subst (λ n. n < c.in-Ok-new.plan.leaves) at c.location-loc.ensures.within in (
      omega (arith, c.pruned_chunks-pruned.ensures.size.1),
      (
        rw (← c.pruned_chunks-pruned.ensures.value) c.if-chunk-pruned.false,
        rw c.as_u64.ensures (chunk_of g.row.N c.height.result c.args.loc c.in-Ok-new.plan.leaves _
            c.height.ensures.power within (rw c.into.ensures.value at c.in-Ok-read.ensures.bits.all)),
      ),
    )

pub returns-in-Ok-read-clause-own : goal.returns-in-Ok-read-clause-own
returns-in-Ok-read-clause-own g c = λ s served.
    let h = g.H.Hasher.hash_of in
    let text = g.D.Digest.text in
    let node = g.S.Storage.node c.args.storage.now in
    let status = g.R.Readable.retained c.args.status.now in
    let G : Grafting = record { shape = g.F.Family.shape; bytes = g.row.N } in
    let level : height G ≡ c.height.result = height_of_power G.shape g.row.N c.height.result c.height.ensures.power in
    let index : c.as_u64.result / 2 ^ c.height.result ≡ first_chunk G c.args.loc = rw (level, c.as_u64.ensures) refl in
    let plan =
    planned_ok _ c.in-Ok-new.plan (plan_over c.in-Ok.leaves c.args.loc (c.args.loc + 1)) c.in-Ok-new.ensures in
    let at : c.location-loc.result ≡ c.args.loc = c.location-loc.ensures.value ∙ ap (λ (p : PlanOf). p.start) plan.1 in
    let range = served_own (g.S.Storage.nodes c.args.storage.now) node G c.args.loc
    (c.args.loc + 1) status g.met.F.Family.laws c.in-Ok.leaves c.into.result text h c.args.floor
    (text c.args.ops_root) (range_proof_of text c.in-Ok-read.range_proof) c.in-Ok.ensures.tree
    (c.into.ensures.value ∙ plan.1) c.in-Ok-read.ensures.own s served in
    built_operation text (held_at node) h G (plan_over (length s.operations) c.args.loc (c.args.loc + 1)) status
    c.args.floor (text c.args.ops_root) s served.parts _ _ _ _ at refl index
    (rw (← c.pruned_chunks-pruned.ensures.value) c.if-chunk-pruned.false) c.get_chunk.ensures range

pub returns-in-Ok-read-clause-made : goal.returns-in-Ok-read-clause-made
returns-in-Ok-read-clause-made g c =
    let G : Grafting = record { shape = g.F.Family.shape; bytes = g.row.N } in
    let plan =
    planned_ok _ c.in-Ok-new.plan (plan_over c.in-Ok.leaves c.args.loc (c.args.loc + 1)) c.in-Ok-new.ensures in
    servable (g.S.Storage.nodes c.args.storage.now) (g.S.Storage.node c.args.storage.now) G c.args.loc (c.args.loc + 1)
    (g.R.Readable.retained c.args.status.now) g.row.F.Denot c.in-Ok.leaves c.into.result c.in-Ok.ensures.tree plan.0
    (c.into.ensures.value ∙ plan.1) c.in-Ok-read.ensures.answered c.in-Ok-read.ensures.bits

pub returns-in-Ok-read-clause-kept : goal.returns-in-Ok-read-clause-kept
returns-in-Ok-read-clause-kept g c =
    let G : Grafting = record { shape = g.F.Family.shape; bytes = g.row.N } in
    let level : height G ≡ c.height.result = height_of_power G.shape g.row.N c.height.result c.height.ensures.power in
    let index : c.as_u64.result / 2 ^ c.height.result ≡ first_chunk G c.args.loc = rw (level, c.as_u64.ensures) refl in
    rw (← index, ← c.pruned_chunks-pruned.ensures.value) c.if-chunk-pruned.false

pub returns-in-Err-read-clause-why : goal.returns-in-Err-read-clause-why
returns-in-Err-read-clause-why g c =
    let G : Grafting = record { shape = g.F.Family.shape; bytes = g.row.N } in
    let level : height G ≡ c.height.result = height_of_power G.shape g.row.N c.height.result c.height.ensures.power in
    let index : c.as_u64.result / 2 ^ c.height.result ≡ first_chunk G c.args.loc = rw (level, c.as_u64.ensures) refl in
    let plan =
    planned_ok _ c.in-Ok-new.plan (plan_over c.in-Ok.leaves c.args.loc (c.args.loc + 1)) c.in-Ok-new.ensures in
    inr (
      rw (← index, ← c.pruned_chunks-pruned.ensures.value) c.if-chunk-pruned.false,
      made_why (g.S.Storage.nodes c.args.storage.now) (g.S.Storage.node c.args.storage.now) G c.args.loc
          (c.args.loc + 1) (g.R.Readable.retained c.args.status.now) (g.S.Storage.may_fail c.args.storage.now)
          c.in-Ok.leaves c.into.result c.in-Err-read.error
          c.in-Ok.ensures.tree plan.0 (c.into.ensures.value ∙ plan.1) c.in-Err-read.ensures.why,
    )

pub returns-in-Err-read-clause-failures : goal.returns-in-Err-read-clause-failures
returns-in-Err-read-clause-failures g c = search rules
