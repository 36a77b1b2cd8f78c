use Rattle.std.proofs.Common.{◌≡◌, option_map, ap, ◌∙◌, arith, subst}
use Rattle.storage_merkle.specs.PlanParts.{peaks_by}
use Rattle.storage_merkle.specs.Rests.{AreAfterLeading}
use Rattle.storage_merkle.specs.CheckParts.{folded_before}
use Rattle.storage_merkle.specs.Stores.{Store}
use Rattle.storage_merkle.proofs.Check.Roots.{after_all}
use Rattle.storage_merkle.proofs.Plan.Folds.{forward_ends, forward_from}
use Rattle.storage_merkle.proofs.Store.Range.{kept_of, front_starts, before_some, before_none}
use Rattle.storage_merkle.proofs.Walked.{leads_on}
use Rattle.storage_merkle.proofs.merkle.proof_store.ProofStore.fold_front.Goals as goal
use Rattle.storage_merkle.proofs.merkle.proof_store.ProofStore.fold_front.Goals.{then-rest-gt0, else-rest-gt0}

pub of-first-items-requires-clause-few : goal.of-first-items-requires-clause-few
of-first-items-requires-clause-few g c =
    omega (arith, c.after_leading-rest.ensures.peaks.sum, c.peaks.ensures.peaks.sum, c.peaks.ensures.few)

pub of-first-items-requires-clause-aligned : goal.of-first-items-requires-clause-aligned
of-first-items-requires-clause-aligned g c = c.after_leading-rest.ensures.peaks.aligned

pub loop-first-init : goal.loop-first-init
loop-first-init g c =
    let S = g.F.Family.shape in
    let h = g.H.Hasher.hash_of in
    let text = g.D.Digest.text in
    let store = c.args.self.now in
    let all = c.peaks.result in
    let r = c.after_leading-rest.result in
    let starts : c.as_u64.result ≡ store.start = c.as_u64.ensures ∙ ap (λ (v : Store). v.start) c.self.view_is in
    let fold : text c.self.inside.front_fold ≡ store.front_fold = ap (λ (v : Store). v.front_fold) c.self.view_is in
    let after : AreAfterLeading S store.start 0 store.leaves all.folded r.first r.left r.folded =
    subst (λ z. AreAfterLeading S z 0 store.leaves all.folded r.first r.left r.folded) starts
    (after_all S c.as_u64.result store.leaves all.folded all.first all.left r.first r.left r.folded
    c.peaks.ensures.first c.peaks.ensures.left c.after_leading-rest.ensures.after) in
    let o : option_map text c.if-rest-gt0.folded ≡ folded_before store.front_fold r.first =
    elim c.if-rest-gt0.branch [
      | then-rest-gt0 w ↦ ap (option_map text) w.folded-is ∙ before_some (text c.self.inside.front_fold) r.first
          w.if-rest-gt0.true ∙ ap (λ x. folded_before x r.first) fold
      | else-rest-gt0 w ↦
          ap (option_map text) w.folded-is ∙ before_none store.front_fold r.first w.if-rest-gt0.false
    ] in
    ap (λ ps. forward_from h (option_map text c.if-rest-gt0.folded) (peaks_by (kept_of h S store) ps))
    (c.into_iter-first-iterator.ensures.into_iter_gives ∙ c.of-first-items.ensures)
    ∙ front_starts h S store c.args.start all.folded r.first r.left r.folded
    (option_map text c.if-rest-gt0.folded) c.peaks.ensures.folded after o

pub peak-requires-clause-aligned : goal.peak-requires-clause-aligned
peak-requires-clause-aligned g c = c.in-Some.ensures.steps.1.aligned

pub peak-requires-clause-within : goal.peak-requires-clause-within
peak-requires-clause-within g c = c.in-Some.ensures.steps.1.fits

pub loop-first-preserved : goal.loop-first-preserved
loop-first-preserved g c = leads_on g.H.Hasher.hash_of (kept_of g.H.Hasher.hash_of g.F.Family.shape c.args.self.now) _ _
    _ _ _ _ _ c.in-Some.ensures.steps.0 c.peak.ensures c.append.ensures c.loop-first.invariant

pub returns : goal.returns
returns g c = forward_ends g.H.Hasher.hash_of (kept_of g.H.Hasher.hash_of g.F.Family.shape c.args.self.now) _ _ _
    c.in-None.ensures.steps.0 c.loop-first.invariant
