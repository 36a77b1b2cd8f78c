use Rattle.std.proofs.Common.{◌≡◌, ◌∙◌, ℕ, length, Some, None, sym, ap, ap₂, subst, rules}
use Rattle.std.specs.List.{Contains}
use Rattle.storage_bitmap.specs.Chunks.{Retained, bit_count}
use Rattle.storage_merkle.specs.Plans.{PlanOf, planned}
use Rattle.storage_current.specs.BuiltProofs.{AreBitsOf}
use Rattle.storage_current.specs.NodeLists.{told_by}
use Rattle.storage_current.specs.Snapshots.{grafting_of, own_range_proof}
use Rattle.storage_sync.proofs.Serving.{bits_are, if_ok, leaves_are, never_absent, parts_of, plan_is, snapshot_parts}
use Rattle.storage_sync.proofs.sync.serve.proof.own_proof.Goals as goal

pub returns-clause-own : goal.returns-clause-own
returns-clause-own g c = λ s served.
    let h = g.H.Hasher.hash_of in
    let gr = grafting_of g.F.Family.shape g.row.N in
    let text = g.H.Digest.Digest.text in
    let kept = c.args.snapshot.now in
    let nodes = kept.nodes in
    let plan : c.in-Ok.plan ≡ record { leaves = c.new-leaves.result; start = c.new.result; end = c.new-2.result }
    = plan_is _ _ _ c.in-Ok.ensures in
    let count : length s.operations ≡ c.in-Ok.plan.leaves =
    sym (ap (λ (p : PlanOf). p.leaves) plan ∙ c.new-leaves.ensures ∙ c.len.ensures.value
    ∙ ap (bit_count g.row.N) c.status-status.ensures ∙ leaves_are h gr kept.status s (snapshot_parts h gr kept c.args.floor s served)) in
    if_ok _ _ c.proof_by.result (λ proof own.
    own s (parts_of h gr kept c.args.floor s served text _ c.in-Ok.plan c.status-status.result.now
    (text c.ops_root-ops_root.result) count c.status-status.ensures c.ops_root-ops_root.ensures.value
    (λ p d given. let found : Some (text d) ≡ told_by nodes p = search rules in sym found))
    ∙ ap (λ (p : PlanOf). own_range_proof h gr s p.start p.end) plan
    ∙ ap₂ (λ (a b : ℕ). own_range_proof h gr s a b) c.new.ensures c.new-2.ensures) c.proof_by.ensures.own

pub returns-clause-why : goal.returns-clause-why
returns-clause-why g c = λ s served some within behind.
    let h = g.H.Hasher.hash_of in
    let gr = grafting_of g.F.Family.shape g.row.N in
    let kept = c.args.snapshot.now in
    let nodes = kept.nodes in
    let all : c.new-leaves.result ≡ length s.operations = c.new-leaves.ensures ∙ c.len.ensures.value
    ∙ ap (bit_count g.row.N) c.status-status.ensures ∙ leaves_are h gr kept.status s (snapshot_parts h gr kept c.args.floor s served) in
    let plan : c.in-Ok.plan ≡ record { leaves = length s.operations; start = c.args.start; end = c.args.end }
    = plan_is _ _ _ c.in-Ok.ensures ∙ ap (λ (n : ℕ). record { leaves = n; start = c.new.result; end = c.new-2.result }) all
    ∙ ap₂ (λ (a b : ℕ). record { leaves = length s.operations; start = a; end = b }) c.new.ensures c.new-2.ensures in
    c.proof_by.ensures.why
    (λ p there absent. never_absent h gr kept c.args.floor s served c.greatest_nodes_are_planned.ensures
    g.met.F.Family.laws c.args.start c.args.end p behind
    (subst (λ (q : PlanOf). Contains (planned gr.shape q.leaves q.start q.end) p) plan there)
    (let e : None ≡ told_by nodes p = search rules in sym e))
    (subst (λ (q : PlanOf). AreBitsOf gr q.leaves c.status-status.result.now) (sym plan)
    (subst (λ (r : Retained). AreBitsOf gr (length s.operations) r) (sym c.status-status.ensures)
    (bits_are h gr kept.status s (snapshot_parts h gr kept c.args.floor s served))))
