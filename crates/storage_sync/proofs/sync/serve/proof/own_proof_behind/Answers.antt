use Rattle.std.proofs.Common.{◌≡◌, ◌∙◌, ◌≤◌, ℕ, length, map, Some, None, sym, ap, ap₂, subst, rules}
use Rattle.std.specs.List.{Contains}
use Rattle.std.specs.Option.{option_map}
use Rattle.storage_bitmap.specs.Chunks.{Retained, bit_count}
use Rattle.storage_merkle.specs.Plans.{PlanOf, planned}
use Rattle.storage_current.specs.BuiltProofs.{AreBitsOf}
use Rattle.storage_current.specs.KeptSnapshots.{pruned_operations}
use Rattle.storage_current.specs.Snapshots.{grafting_of, own_range_proof}
use Rattle.storage_sync.specs.Serving.{TellsLeft}
use Rattle.storage_sync.proofs.Opened.{provable}
use Rattle.storage_sync.proofs.Serving.{behind_parts, bits_are, if_ok, leaves_are, plan_is, tail_parts, told_behind}
use Rattle.storage_sync.proofs.sync.serve.proof.own_proof_behind.Goals as goal

pub returns-clause-own : goal.returns-clause-own
returns-clause-own g c = λ s served behind.
    let h = g.H.Hasher.hash_of in
    let gr = grafting_of g.F.Family.shape g.row.N in
    let text = g.H.Digest.Digest.text in
    let kept = c.args.snapshot.now in
    let plan : c.in-Ok.plan ≡ record { leaves = c.new-leaves.result; start = c.new.result; end = c.new-2.result }
    = plan_is _ _ _ c.in-Ok.ensures in
    let count : length s.operations ≡ c.in-Ok.plan.leaves =
    sym (ap (λ (p : PlanOf). p.leaves) plan ∙ c.new-leaves.ensures ∙ c.len.ensures.value
    ∙ ap (bit_count g.row.N) c.status-status.ensures ∙ leaves_are h gr kept.status s (tail_parts h gr kept s served)) in
    let from : pruned_operations gr kept.status ≤ c.in-Ok.plan.start = subst (λ (x : ℕ). pruned_operations gr kept.status ≤ x)
    (sym (ap (λ (p : PlanOf). p.start) plan ∙ c.new.ensures)) behind in
    if_ok _ _ c.proof_by.result (λ proof own.
    own s (behind_parts h gr kept s served text _ c.greatest_nodes_are_planned.ensures
    (c.planned_nodes_behind_pins_are_left.ensures gr.shape gr.bytes) g.met.F.Family.laws c.in-Ok.plan c.status-status.result.now
    c.floor-floor.result (text c.ops_root-ops_root.result) count from c.status-status.ensures c.floor-floor.ensures
    c.ops_root-ops_root.ensures.value
    (λ p d given. let found : TellsLeft h gr kept p (Some (text d)) = search rules in found))
    ∙ ap (λ (p : PlanOf). own_range_proof h gr s p.start p.end) plan
    ∙ ap₂ (λ (a b : ℕ). own_range_proof h gr s a b) c.new.ensures c.new-2.ensures) c.proof_by.ensures.own

pub returns-clause-why : goal.returns-clause-why
returns-clause-why g c = λ s served some within behind.
    let h = g.H.Hasher.hash_of in
    let gr = grafting_of g.F.Family.shape g.row.N in
    let kept = c.args.snapshot.now in
    let parts = tail_parts h gr kept s served in
    let all : c.new-leaves.result ≡ length s.operations = c.new-leaves.ensures ∙ c.len.ensures.value
    ∙ ap (bit_count g.row.N) c.status-status.ensures ∙ leaves_are h gr kept.status s parts in
    let plan : c.in-Ok.plan ≡ record { leaves = length s.operations; start = c.args.start; end = c.args.end }
    = plan_is _ _ _ c.in-Ok.ensures ∙ ap (λ (n : ℕ). record { leaves = n; start = c.new.result; end = c.new-2.result }) all
    ∙ ap₂ (λ (a b : ℕ). record { leaves = length s.operations; start = a; end = b }) c.new.ensures c.new-2.ensures in
    c.proof_by.ensures.why
    (λ p there absent. told_behind h gr kept s served c.greatest_nodes_are_planned.ensures
    (c.planned_nodes_behind_pins_are_left.ensures gr.shape gr.bytes) g.met.F.Family.laws c.args.start c.args.end p behind
    (subst (λ (q : PlanOf). Contains (planned gr.shape q.leaves q.start q.end) p) plan there)
    (let found : TellsLeft h gr kept p None = search rules in found))
    (subst (λ (q : PlanOf). AreBitsOf gr q.leaves c.status-status.result.now) (sym plan)
    (subst (λ (r : Retained). AreBitsOf gr (length s.operations) r) (sym c.status-status.ensures)
    (bits_are h gr kept.status s parts)))

pub returns-in_default-clause-why : goal.returns-in_default-clause-why
returns-in_default-clause-why g c = λ s served some within behind.
    let h = g.H.Hasher.hash_of in
    let gr = grafting_of g.F.Family.shape g.row.N in
    let kept = c.args.snapshot.now in
    let all : c.new-leaves.result ≡ length s.operations = c.new-leaves.ensures ∙ c.len.ensures.value
    ∙ ap (bit_count g.row.N) c.status-status.ensures ∙ leaves_are h gr kept.status s (tail_parts h gr kept s served) in
    let none = provable g.row.F.Denot (length s.operations) c.args.start c.args.end served.snapshot.few some within in
    let memory = rw (all, c.new.ensures, c.new-2.ensures, none) at c.in-Err.ensures in
    absurd (c.in_default.not-Memory memory)
