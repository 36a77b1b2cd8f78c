use Rattle.std.proofs.Common.{rules, of_calls, arith, ap, sym, ltb, length, None, ◌≡◌, ◌≢◌, ◌<◌, ◌∙◌}
use Rattle.std.proofs.lemmas.List.{get_or_default}
use Rattle.std.proofs.lemmas.List.Sorted.{IsPartitionedBy-ltb, IsPartitionPoint-from_clause}
use Rattle.storage_merkle.specs.Extracted.{by_bytes}
use Rattle.storage_merkle.specs.Stores.{Store, entry_at}
use Rattle.storage_merkle.proofs.Store.Steps.{kept_found, kept_none, entries_rise, stands_elsewhere, stands_there}
use Rattle.storage_merkle.proofs.merkle.proof_store.ProofStore.kept_at.Goals as goal
use Rattle.storage_merkle.proofs.merkle.proof_store.ProofStore.kept_at.Goals.{then-index-len-via-then-index-len, then-index-len-via-else-index-len+then-ne}

pub returns-then-index-len : goal.returns-then-index-len
returns-then-index-len g c =
    let text = g.D.Digest.text in
    let es = c.self.inside.kept.items in
    let p = c.args.position in
    let i = c.partition_point-index.result in
    let parts = rw c.deref.ensures.value at (IsPartitionPoint-from_clause (λ y. ltb y.0 p) c.deref.result.now i
    c.partition_point-index.ensures.partitioned (IsPartitionedBy-ltb (λ y. y.0) c.deref.result.now p
    (rw c.deref.ensures.value (entries_rise es c.self.invariant.1))) (λ a r f k. search (rules, of_calls))) in
    let none : entry_at p (by_bytes text es) ≡ None = elim c.then-index-len.branch [
      | then-index-len-via-then-index-len w ↦ kept_none text p es i parts c.self.invariant.1
          (λ l d. absurd (let last : i ≡ c.len.result = w.if-index-len.true in omega (arith, c.len.ensures)))
      | then-index-len-via-else-index-len+then-ne w ↦ kept_none text p es i parts c.self.invariant.1
          (λ l d. stands_elsewhere es i p w.index.result.now w.index.ensures w.if-ne.ensures l d)
    ] in
    sym none ∙ ap (λ (v : Store). entry_at p v.kept) c.self.view_is

pub returns : goal.returns
returns g c =
    let text = g.D.Digest.text in
    let es = c.self.inside.kept.items in
    let p = c.args.position in
    let i = c.partition_point-index.result in
    let parts = rw c.deref.ensures.value at (IsPartitionPoint-from_clause (λ y. ltb y.0 p) c.deref.result.now i
    c.partition_point-index.ensures.partitioned (IsPartitionedBy-ltb (λ y. y.0) c.deref.result.now p
    (rw c.deref.ensures.value (entries_rise es c.self.invariant.1))) (λ a r f k. search (rules, of_calls))) in
    let within : i < length es =
    (let ne : i ≢ c.len.result = c.if-index-len.false in omega (arith, c.partition_point-index.ensures.bound, ap length c.deref.ensures.value, c.len.ensures)) in
    let same = stands_there c.index.result.now.0 p c.if-ne.ensures in
    let one : c.index-2.result.now.0 ≡ p = ap (λ e. e.0) (c.index-2.ensures
    ∙ get_or_default es i c.index-2.result.now c.index.result.now within ∙ sym c.index.ensures) ∙ same in
    sym (kept_found text p es i parts c.index-2.result.now within c.index-2.ensures one)
    ∙ ap (λ (v : Store). entry_at p v.kept) c.self.view_is
