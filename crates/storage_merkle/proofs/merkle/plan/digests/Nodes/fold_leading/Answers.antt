use Rattle.std.proofs.Common.{refl, sym, ap, subst, ◌∙◌}
use Rattle.storage_merkle.specs.Hashers.{forward_of}
use Rattle.storage_merkle.specs.PlanParts.{ArePlannedAll, peaks_by}
use Rattle.storage_merkle.proofs.Plan.Folds.{forward_ends}
use Rattle.storage_merkle.proofs.Walked.{leads_on}
use Rattle.storage_merkle.proofs.merkle.plan.digests.Nodes.fold_leading.Goals as goal

pub loop-first-init : goal.loop-first-init
loop-first-init g c =
    let at = c.into_iter-first-iterator.ensures.into_iter_gives ∙ c.of-first-items.ensures in
    record {
      planned = subst (ArePlannedAll g.F.Family.shape c.args.self.now.positions.now) (sym at) c.requires.planned;
      folds = λ digest_of are. ap (λ ps. forward_of g.H.Hasher.hash_of (peaks_by digest_of ps)) at;
    }

pub node-requires-clause-aligned : goal.node-requires-clause-aligned
node-requires-clause-aligned g c = c.in-Some.ensures.steps.1.aligned

pub node-requires-clause-within : goal.node-requires-clause-within
node-requires-clause-within g c = c.in-Some.ensures.steps.1.fits

pub node-requires-clause-among : goal.node-requires-clause-among
node-requires-clause-among g c = (subst (ArePlannedAll g.F.Family.shape c.args.self.now.positions.now)
    c.in-Some.ensures.steps.0 c.loop-first.invariant.planned).0

pub loop-first-preserved : goal.loop-first-preserved
loop-first-preserved g c =
    let steps = c.in-Some.ensures.steps in
    record {
      planned = (subst (ArePlannedAll g.F.Family.shape c.args.self.now.positions.now) steps.0
          c.loop-first.invariant.planned).1;
      folds = λ digest_of are. leads_on g.H.Hasher.hash_of digest_of _ _ _ _ _ _ _ steps.0
          (are _ _ _ c.node.result c.node.ensures (record { aligned = steps.1.aligned; at = refl })) c.append.ensures
          (c.loop-first.invariant.folds digest_of are);
    }

pub returns : goal.returns
returns g c = λ digest_of are. forward_ends g.H.Hasher.hash_of digest_of _ _ _ c.in-None.ensures.steps.0
    (c.loop-first.invariant.folds digest_of are)
