use Rattle.std.proofs.Common.{◌≡◌, ◌≤◌, ◌<◌, ◌∙◌, ◌/◌, ◌^◌, length, map, arith, sym, subst, inl, inr, rules}
use Rattle.storage_bitmap.specs.Chunks.{bit_count}
use Rattle.storage_current.specs.Laws.Grafting.{height_of_power}
use Rattle.storage_current.specs.Held.{range_proof_of}
use Rattle.storage_current.specs.Served.{AreServedOf, HoldsRange, IsNotMade, IsServable, end_of}
use Rattle.storage_current.specs.Snapshots.{Grafting, own_range_proof}
use Rattle.storage_current.proofs.Making.{same_count}
use Rattle.storage_current.proofs.Serving.{end_after, end_within, fault_moved, holds_range, log_counts_moved, power_of_size, range_moved, touched_moved}
use Rattle.storage_current.proofs.qmdb.current.proof.RangeProof.new_with_ops.Goals as goal

pub returns-in-Err-new-clause-why : goal.returns-in-Err-new-clause-why
returns-in-Err-new-clause-why g c =
    let G : Grafting = record { shape = g.F.Family.shape; bytes = g.row.N } in
    let error = c.in-Err-new.error in
    inr (inl (
      c.in-Ok.ensures.kept,
      subst (λ h.
          IsNotMade (g.S.Storage.nodes c.args.storage.now) (g.S.Storage.node c.args.storage.now)
          (g.S.Storage.may_fail c.args.storage.now) G c.args.spec.start_loc h (g.R.Readable.retained c.args.status.now) error) c.in-Ok.ensures.end c.in-Err-new.ensures.why,
    ))

pub touched_chunks-requires : goal.touched_chunks-requires
touched_chunks-requires g c =
    let G : Grafting = record { shape = g.F.Family.shape; bytes = g.row.N } in
    let status = g.R.Readable.retained c.args.status.now in
    let start = c.args.spec.start_loc in
    let count = bit_count g.row.N status in
    let kept = c.in-Ok.ensures.kept in
    let size = c.in-Ok.ensures.size in
    let end = c.in-Ok.ensures.end in
    let after = end_after start c.args.spec.max_ops count c.requires.some kept.within in
    let within = end_within start c.args.spec.max_ops count in
    let low = c.as_u64-2.ensures in
    let high = c.as_u64-3.ensures in (
      omega (arith, size.1),
      (
        size,
        (
          subst (λ a. a < c.as_u64-3.result) (sym low) (subst (λ b. start < b) (sym (high ∙ end)) after),
          (
            subst (λ b. b ≤ count) (sym (high ∙ end)) within,
            λ h power. subst (λ a. status.pruned ≤ a / 2 ^ h) (sym low)
                (subst (λ k. status.pruned ≤ start / 2 ^ k) (height_of_power G.shape g.row.N h power) kept.kept),
          ),
        ),
      ),
    )

pub returns-in-Ok-read_range-clause-own : goal.returns-in-Ok-read_range-clause-own
returns-in-Ok-read_range-clause-own g c = λ s served.
    let G : Grafting = record { shape = g.F.Family.shape; bytes = g.row.N } in
    let text = g.D.Digest.text in
    let hash = g.H.Hasher.hash_of in
    let nodes = g.S.Storage.nodes c.args.storage.now in
    let node = g.S.Storage.node c.args.storage.now in
    let status = g.R.Readable.retained c.args.status.now in
    let start = c.args.spec.start_loc in
    let count = bit_count g.row.N status in
    let high = end_of start c.args.spec.max_ops count in
    let end : c.in-Ok.end ≡ high = c.in-Ok.ensures.end in
    let proof = range_proof_of text c.in-Ok-new.proof in
    let served_here = subst (λ h. AreServedOf nodes node G start h status text hash c.args.spec.inactivity_floor
    (text c.args.spec.ops_root) s) (sym end) served in
    let own : proof ≡ own_range_proof hash G s start high =
    subst (λ h. proof ≡ own_range_proof hash G s start h) end (c.in-Ok-new.ensures.own s served_here) in
    let made = c.in-Ok-new.ensures.made in
    let kept = c.in-Ok.ensures.kept in
    let all : count ≡ length s.operations = made.bits.all ∙ sym
    (same_count G.shape g.met.F.Family.laws (length s.operations) made.leaves (served.tree ∙ sym made.tree)) in
    let within : high ≤ length s.operations = subst (λ n. high ≤ n) all (end_within start c.args.spec.max_ops count) in
    let operations = map g.L.Contiguous.text c.in-Ok-read_range.operations.items in
    let item = g.L.Contiguous.item c.args.log.now in
    let are = range_moved item c.as_u64-4.result c.as_u64-5.result start high operations c.as_u64-4.ensures
    (c.as_u64-5.ensures ∙ end) c.in-Ok-read_range.ensures.items in
    let touched = touched_moved g.row.N status c.as_u64-2.result c.as_u64-3.result start high
    c.in_ok-chunks.chunks.items c.as_u64-2.ensures (c.as_u64-3.ensures ∙ end) c.in_ok-chunks.ensures in (
      own,
      λ same. holds_range G s status item start high operations c.in_ok-chunks.chunks.items
          (end_after start c.args.spec.max_ops count c.requires.some kept.within) within served.parts.bits kept.kept are
          touched (power_of_size G.shape g.row.N c.in-Ok.ensures.size) same,
    )

pub returns-in-Err-read_range-clause-why : goal.returns-in-Err-read_range-clause-why
returns-in-Err-read_range-clause-why g c =
    let G : Grafting = record { shape = g.F.Family.shape; bytes = g.row.N } in
    let status = g.R.Readable.retained c.args.status.now in
    let start = c.args.spec.start_loc in
    let end = c.in-Ok.ensures.end in
    let made = subst (λ h. IsServable (g.S.Storage.nodes c.args.storage.now)
    (g.S.Storage.node c.args.storage.now) G start h status g.row.F.Denot) end c.in-Ok-new.ensures.made in
    let low : g.L.Contiguous.first c.args.log.now ≤ start = (let a = c.bounds-held.ensures.start in
    let b = c.as_u64.ensures in let f = c.if-as_u64-held.false in omega (arith, a, b, f)) in
    let past : c.in-Ok.end ≤ g.L.Contiguous.past c.args.log.now = (let a = c.bounds-held.ensures.end in
    let b = c.as_u64-else-as_u64-held.ensures in let f = c.if-held-as_u64.false in omega (arith, a, b, f)) in
    let holds = subst (λ h. HoldsRange (g.L.Contiguous.first c.args.log.now)
    (g.L.Contiguous.past c.args.log.now) start h) end (low, past) in
    elim c.in-Err-read_range.ensures.why [
      | inl fault ↦
          let moved = fault_moved _ _ _ _ _ _ c.as_u64-4.ensures (c.as_u64-5.ensures ∙ end) fault in
          inr (inr (inr (inl (c.in-Ok.ensures.kept, made, holds, moved))))
      | inr memory ↦ inr (inr (inr (inr memory)))
    ]

pub returns-in-Err-read_range-clause-log_failures :
    goal.returns-in-Err-read_range-clause-log_failures
returns-in-Err-read_range-clause-log_failures g c =
    log_counts_moved c.in-Err-read_range.error _ _ c.in-Err-read_range.ensures.failures

pub returns-then-as_u64-held-clause-why : goal.returns-then-as_u64-held-clause-why
returns-then-as_u64-held-clause-why g c = search rules

pub returns-in-Ok-read_range-clause-log_failures : goal.returns-in-Ok-read_range-clause-log_failures
returns-in-Ok-read_range-clause-log_failures g c = search rules

pub returns-in-Err-read_range-clause-store_failures : goal.returns-in-Err-read_range-clause-store_failures
returns-in-Err-read_range-clause-store_failures g c = search rules
