use Rattle.std.proofs.Common.{◌++◌, map, sym, ap, subst, ◌∙◌}
use Rattle.storage_merkle.specs.PlanParts.{IsPlannedMet, met_digest}
use Rattle.storage_merkle.specs.Rests.{peaks_from}
use Rattle.storage_merkle.proofs.Plan.Tops.{met_are}
use Rattle.storage_merkle.proofs.Walked.{EachMet, adds_met, adds_none, all_listed, planned_met}
use Rattle.storage_merkle.proofs.merkle.plan.digests.Nodes.add_peaks.Goals as goal

pub loop-top-init : goal.loop-top-init
loop-top-init g c =
    let S = g.F.Family.shape in
    let at = c.into_iter-top-iterator.ensures.into_iter_gives ∙ c.apart-top-items.ensures in
    record {
      planned = subst (EachMet (IsPlannedMet S c.args.self.now.positions.now)) (sym at)
          (planned_met S c.args.start c.args.end c.args.self.now.positions.now c.args.rest.folded c.args.rest.first
          (S.peaks c.args.rest.left) c.requires.planned);
      adds = λ digest_of are. ap (λ ms. map g.D.Digest.text c.args.digests.now.items
          ++ all_listed (map (met_digest g.H.Hasher.hash_of digest_of) ms)) at;
    }

pub top-requires-clause-placed : goal.top-requires-clause-placed
top-requires-clause-placed g c = c.in-Some.ensures.steps.1

pub top-requires-clause-planned : goal.top-requires-clause-planned
top-requires-clause-planned g c = (subst (EachMet (IsPlannedMet g.F.Family.shape c.args.self.now.positions.now))
    c.in-Some.ensures.steps.0 c.loop-top.invariant.planned).0

pub loop-top-preserved : goal.loop-top-preserved
loop-top-preserved g c = record {
  planned = (subst (EachMet (IsPlannedMet g.F.Family.shape c.args.self.now.positions.now)) c.in-Some.ensures.steps.0
      c.loop-top.invariant.planned).1;
  adds = λ digest_of are. adds_met g.D.Digest.text (met_digest g.H.Hasher.hash_of digest_of) c.top.result _ _ _ _ _ _
      c.in-Some.ensures.steps.0 (c.top.ensures digest_of are) c.in_ok-push_some.ensures
      (c.loop-top.invariant.adds digest_of are);
}

pub returns : goal.returns
returns g c = λ digest_of xs ys are late.
    let r = c.args.rest in
    let S = g.F.Family.shape in
    adds_none (met_digest g.H.Hasher.hash_of digest_of) _ _ _ c.in-None.ensures.steps.0
    (c.loop-top.invariant.adds digest_of are) ∙ ap (λ ds. map g.D.Digest.text c.args.digests.now.items ++ ds)
    (met_are c.args.start c.args.end xs ys g.H.Hasher.hash_of digest_of (peaks_from S r.first r.left) r.folded late)
