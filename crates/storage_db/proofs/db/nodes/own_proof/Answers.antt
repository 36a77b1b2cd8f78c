use Rattle.std.proofs.Common.{◌≡◌, ◌+◌, Some, sym, ap, ◌∙◌, rules}
use Rattle.storage_merkle.specs.Plans.{PlanOf}
use Rattle.storage_current.specs.KeptSnapshots.{pruned_operations}
use Rattle.storage_current.specs.NodeLists.{told_by}
use Rattle.storage_current.specs.Snapshots.{grafting_of, own_operation_proof}
use Rattle.storage_db.proofs.Cases.{if_ok}
use Rattle.storage_db.proofs.Planned.{parts_of, plan_is}
use Rattle.storage_db.proofs.db.nodes.own_proof.Goals as goal

pub returns : goal.returns
returns g c =
    let h = g.H.Hasher.hash_of in
    let gr = grafting_of g.F.Family.shape g.row.N in
    let text = g.H.Digest.Digest.text in
    let nodes = c.args.snapshot.now.nodes in
    let plan : c.in-Ok.plan ≡ record { leaves = c.args.leaves; start = c.args.location; end = c.args.location + 1 }
    = plan_is _ _ _ c.in-Ok.ensures in
    if_ok _ _ c.proof_by.result (λ proof own s whole stands count floor.
    own s (parts_of text _ h gr c.in-Ok.plan c.status-status.result.now c.args.floor (text c.ops_root-ops_root.result) s nodes
    (pruned_operations gr c.args.snapshot.now.status) (sym count ∙ ap (λ (p : PlanOf). p.leaves) (sym plan)) (rw c.status-status.ensures stands.status) floor whole.floor_within
    (c.ops_root-ops_root.ensures.stands s stands) stands.nodes
    (λ p d given. let found : Some (text d) ≡ told_by nodes p = search rules in sym found))
    ∙ ap (λ (p : PlanOf). own_operation_proof h gr s p.start) plan) c.proof_by.ensures
