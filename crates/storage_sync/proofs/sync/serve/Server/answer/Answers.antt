use Rattle.std.proofs.Common.{◌≡◌, ◌+◌, ◌≤◌, ◌∙◌, ℕ, length, sym, ap, subst, arith}
use Rattle.storage_bitmap.specs.Chunks.{Retained, bit_count}
use Rattle.storage_current.specs.Held.{range_proof_of}
use Rattle.storage_current.specs.Snapshots.{grafting_of}
use Rattle.storage_sync.specs.Messages.{request_of}
use Rattle.storage_sync.specs.Serving.{IsUnanswered, answer_count}
use Rattle.storage_sync.proofs.Serving.{answer_at, behind, counts_made, counts_moved, has_moved, leaves_are, none_moved, page_fault, proof_fault, snapshot_parts, some, uncounted, unread, within}
use Rattle.storage_sync.proofs.sync.serve.Server.answer.Goals as goal

pub returns-in-Err-clause-why : goal.returns-in-Err-clause-why
returns-in-Err-clause-why g c = λ s served.
    let gr = grafting_of g.F.Family.shape g.row.N in
    let kept = c.args.self.now.snapshot in
    none_moved g.row.N _ (length s.operations) _ kept.status.pruned _ (g.L.Contiguous.first c.args.log.now)
    (g.L.Contiguous.past c.args.log.now) (g.L.Contiguous.may_fail c.args.log.now) (request_of c.args.request) c.in-Err.why
    (ap (bit_count g.row.N) c.status-status.ensures ∙ leaves_are g.H.Hasher.hash_of gr kept.status s (snapshot_parts g.H.Hasher.hash_of gr kept c.args.self.now.floor s served))
    (ap (λ (r : Retained). r.pruned) c.status-status.ensures) c.bounds-held.ensures.start c.in-Err.ensures.why

pub returns-in-Err-clause-failures : goal.returns-in-Err-clause-failures
returns-in-Err-clause-failures g c =
    uncounted c.in-Err.why (g.L.Contiguous.failed c.args.log.now)
    (page_fault g.row.N _ _ _ (request_of c.args.request) c.in-Err.why c.in-Err.ensures.why)

pub returns-then-held-end-clause-why : goal.returns-then-held-end-clause-why
returns-then-held-end-clause-why g c = λ s served.
    let gr = grafting_of g.F.Family.shape g.row.N in
    let kept = c.args.self.now.snapshot in
    let r = request_of c.args.request in
    let all : bit_count g.row.N c.status-status.result.now ≡ length s.operations =
    ap (bit_count g.row.N) c.status-status.ensures ∙ leaves_are g.H.Hasher.hash_of gr kept.status s (snapshot_parts g.H.Hasher.hash_of gr kept c.args.self.now.floor s served) in
    let has = has_moved g.row.N _ (length s.operations) _ kept.status.pruned _ (g.L.Contiguous.first c.args.log.now) r all
    (ap (λ (q : Retained). q.pruned) c.status-status.ensures) c.bounds-held.ensures.start c.in-Ok.ensures.page in
    let end : c.in-Ok.end ≡ r.start + answer_count g.row.N (length s.operations) r =
    c.in-Ok.ensures.end ∙ ap (λ (n : ℕ). r.start + answer_count g.row.N n r) all in
    (has, omega (arith, end, c.bounds-held.ensures.end, c.if-held-end.true))

pub returns-in-Err-own_proof-clause-why : goal.returns-in-Err-own_proof-clause-why
returns-in-Err-own_proof-clause-why g c = λ s served.
    let h = g.H.Hasher.hash_of in
    let gr = grafting_of g.F.Family.shape g.row.N in
    let kept = c.args.self.now.snapshot in
    let floor = c.args.self.now.floor in
    let r = request_of c.args.request in
    let first = g.L.Contiguous.first c.args.log.now in
    let past = g.L.Contiguous.past c.args.log.now in
    let at = c.as_u64-start.ensures in
    let size = c.in-Ok.ensures.size in
    let all : bit_count g.row.N c.status-status.result.now ≡ length s.operations =
    ap (bit_count g.row.N) c.status-status.ensures ∙ leaves_are h gr kept.status s (snapshot_parts h gr kept floor s served) in
    let has = has_moved g.row.N _ (length s.operations) _ kept.status.pruned _ first r all
    (ap (λ (q : Retained). q.pruned) c.status-status.ensures) c.bounds-held.ensures.start c.in-Ok.ensures.page in
    let end : c.in-Ok.end ≡ r.start + answer_count g.row.N (length s.operations) r =
    c.in-Ok.ensures.end ∙ ap (λ (n : ℕ). r.start + answer_count g.row.N n r) all in
    let memory = c.in-Err-own_proof.ensures.why s served
    (omega (arith, at, some h gr kept.status s (snapshot_parts h gr kept floor s served) size r first past c.in-Ok.end has end))
    (within h gr kept.status s (snapshot_parts h gr kept floor s served) size r first past c.in-Ok.end has end)
    (omega (arith, at, behind h gr kept.status s (snapshot_parts h gr kept floor s served) size r first past c.in-Ok.end has end)) in
    subst (IsUnanswered g.row.N (length s.operations) kept.status.pruned first past (g.L.Contiguous.may_fail c.args.log.now) r)
    (sym memory) tt

pub returns-in-Err-own_proof-clause-failures : goal.returns-in-Err-own_proof-clause-failures
returns-in-Err-own_proof-clause-failures g c =
    uncounted c.in-Err-own_proof.why (g.L.Contiguous.failed c.args.log.now)
    (proof_fault c.in-Err-own_proof.why c.in-Err-own_proof.ensures.kind)

pub returns-in-Err-read_operations-clause-why : goal.returns-in-Err-read_operations-clause-why
returns-in-Err-read_operations-clause-why g c = λ s served.
    let h = g.H.Hasher.hash_of in
    let gr = grafting_of g.F.Family.shape g.row.N in
    let kept = c.args.self.now.snapshot in
    let r = request_of c.args.request in
    let first = g.L.Contiguous.first c.args.log.now in
    let past = g.L.Contiguous.past c.args.log.now in
    let all : bit_count g.row.N c.status-status.result.now ≡ length s.operations =
    ap (bit_count g.row.N) c.status-status.ensures ∙ leaves_are h gr kept.status s (snapshot_parts h gr kept c.args.self.now.floor s served) in
    let has = has_moved g.row.N _ (length s.operations) _ kept.status.pruned _ first r all
    (ap (λ (q : Retained). q.pruned) c.status-status.ensures) c.bounds-held.ensures.start c.in-Ok.ensures.page in
    let end : c.in-Ok.end ≡ r.start + answer_count g.row.N (length s.operations) r =
    c.in-Ok.ensures.end ∙ ap (λ (n : ℕ). r.start + answer_count g.row.N n r) all in
    let held : c.in-Ok.end ≤ past = omega (arith, c.bounds-held.ensures.end, c.if-held-end.false) in
    unread g.row.N (length s.operations) kept.status.pruned first past c.as_u64-start.result c.in-Ok.end
    (g.L.Contiguous.may_fail c.args.log.now) r c.in-Err-read_operations.why has c.as_u64-start.ensures end held
    c.in-Err-read_operations.ensures.why

pub returns-in-Err-read_operations-clause-failures : goal.returns-in-Err-read_operations-clause-failures
returns-in-Err-read_operations-clause-failures g c =
    counts_moved c.in-Err-read_operations.why _ _ c.in-Err-read_operations.ensures.failures

pub returns-in-Ok-read_operations-clause-made : goal.returns-in-Ok-read_operations-clause-made
returns-in-Ok-read_operations-clause-made g c = λ s served.
    let h = g.H.Hasher.hash_of in
    let gr = grafting_of g.F.Family.shape g.row.N in
    let kept = c.args.self.now.snapshot in
    let r = request_of c.args.request in
    let first = g.L.Contiguous.first c.args.log.now in
    let all : bit_count g.row.N c.status-status.result.now ≡ length s.operations =
    ap (bit_count g.row.N) c.status-status.ensures ∙ leaves_are h gr kept.status s (snapshot_parts h gr kept c.args.self.now.floor s served) in
    let has = has_moved g.row.N _ (length s.operations) _ kept.status.pruned _ first r all
    (ap (λ (q : Retained). q.pruned) c.status-status.ensures) c.bounds-held.ensures.start c.in-Ok.ensures.page in
    let end : c.in-Ok.end ≡ r.start + answer_count g.row.N (length s.operations) r =
    c.in-Ok.ensures.end ∙ ap (λ (n : ℕ). r.start + answer_count g.row.N n r) all in
    (has, omega (arith, end, c.bounds-held.ensures.end, c.if-held-end.false))

pub returns-in-Ok-read_operations-clause-own : goal.returns-in-Ok-read_operations-clause-own
returns-in-Ok-read_operations-clause-own g c = λ s served log.
    let h = g.H.Hasher.hash_of in
    let gr = grafting_of g.F.Family.shape g.row.N in
    let kept = c.args.self.now.snapshot in
    let floor = c.args.self.now.floor in
    let r = request_of c.args.request in
    let first = g.L.Contiguous.first c.args.log.now in
    let past = g.L.Contiguous.past c.args.log.now in
    let all : bit_count g.row.N c.status-status.result.now ≡ length s.operations =
    ap (bit_count g.row.N) c.status-status.ensures ∙ leaves_are h gr kept.status s (snapshot_parts h gr kept floor s served) in
    let has = has_moved g.row.N _ (length s.operations) _ kept.status.pruned _ first r all
    (ap (λ (q : Retained). q.pruned) c.status-status.ensures) c.bounds-held.ensures.start c.in-Ok.ensures.page in
    let end : c.in-Ok.end ≡ r.start + answer_count g.row.N (length s.operations) r =
    c.in-Ok.ensures.end ∙ ap (λ (n : ℕ). r.start + answer_count g.row.N n r) all in
    let held : c.in-Ok.end ≤ past = omega (arith, c.bounds-held.ensures.end, c.if-held-end.false) in
    answer_at h gr kept.status s (snapshot_parts h gr kept floor s served) c.in-Ok.ensures.size r first past c.in-Ok.end has end g.L.Contiguous.text
    (g.L.Contiguous.item c.args.log.now) log held c.as_u64-start.result c.as_u64-start.ensures
    c.in-Ok-read_operations.operations.items c.in-Ok-read_operations.ensures.items
    (range_proof_of g.H.Digest.Digest.text c.in-Ok-own_proof.proof) (c.in-Ok-own_proof.ensures.own s served)
    c.status-status.result.now c.status-status.ensures c.in-Ok-chunks_between.chunks.items c.in-Ok-chunks_between.ensures

pub returns-in-Ok-read_operations-clause-failures : goal.returns-in-Ok-read_operations-clause-failures
returns-in-Ok-read_operations-clause-failures g c =
    counts_made c.in-Ok-read_operations.operations _ _ _ c.in-Ok-read_operations.ensures.failures
