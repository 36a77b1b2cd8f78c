use Rattle.std.proofs.Common.{arith, map, sym, ap, subst, ◌∙◌}
use Rattle.storage_merkle.specs.Hashers.{forward_of}
use Rattle.storage_merkle.specs.PinnedParts.{digest_before}
use Rattle.storage_merkle.specs.PlanParts.{peaks_by}
use Rattle.storage_merkle.specs.Plans.{InTree}
use Rattle.storage_merkle.specs.Rests.{EachPeak, peaks_from}
use Rattle.storage_merkle.proofs.Plan.Folds.{forward_ends}
use Rattle.storage_merkle.proofs.Walks.{peaks_in_tree}
use Rattle.storage_merkle.proofs.Walked.{each_leading, leads_on}
use Rattle.storage_merkle.proofs.merkle.proof.pinned.Pinned.fold_leading.Goals as goal

pub loop-first-init : goal.loop-first-init
loop-first-init g c =
    let S = g.F.Family.shape in
    let peaks = c.args.peaks in
    let self = c.args.self.now in
    let at = c.into_iter-first-iterator.ensures.into_iter_gives ∙ c.of-first-items.ensures in
    record {
      within = subst (EachPeak (InTree S self.leaves)) (sym at)
          (each_leading self.start (InTree S self.leaves) (InTree S self.leaves) (λ a k l t. t) peaks.folded
          (peaks_from S peaks.first peaks.left)
          (peaks_in_tree S g.met.F.Family.laws self.leaves peaks.first peaks.left c.requires.peaks));
      folds = ap (λ ps. forward_of g.H.Hasher.hash_of (peaks_by (digest_before g.H.Hasher.hash_of
          (g.H.Hasher.layout c.args.hasher.now) self.start (map g.D.Digest.text self.digests.now)
          (g.H.Hasher.chunk c.args.hasher.now)) ps)) at;
    }

pub of-first-items-requires-clause-few : goal.of-first-items-requires-clause-few
of-first-items-requires-clause-few g c = omega (arith, c.requires.peaks.sum, c.requires.pinned.few)

pub of-first-items-requires-clause-aligned : goal.of-first-items-requires-clause-aligned
of-first-items-requires-clause-aligned g c = c.requires.peaks.aligned

pub node-requires-clause-small : goal.node-requires-clause-small
node-requires-clause-small g c = c.in-Some.ensures.steps.1.small

pub node-requires-clause-within : goal.node-requires-clause-within
node-requires-clause-within g c = (subst (EachPeak (InTree g.F.Family.shape c.args.self.now.leaves))
    c.in-Some.ensures.steps.0 c.loop-first.invariant.within).0

pub loop-first-preserved : goal.loop-first-preserved
loop-first-preserved g c = record {
  within = (subst (EachPeak (InTree g.F.Family.shape c.args.self.now.leaves)) c.in-Some.ensures.steps.0
      c.loop-first.invariant.within).1;
  folds = leads_on g.H.Hasher.hash_of (digest_before g.H.Hasher.hash_of (g.H.Hasher.layout c.args.hasher.now)
      c.args.self.now.start (map g.D.Digest.text c.args.self.now.digests.now) (g.H.Hasher.chunk c.args.hasher.now)) _ _ _
      _ _ _ _ c.in-Some.ensures.steps.0 c.node.ensures c.append.ensures c.loop-first.invariant.folds;
}

pub returns : goal.returns
returns g c = forward_ends g.H.Hasher.hash_of (digest_before g.H.Hasher.hash_of (g.H.Hasher.layout c.args.hasher.now)
    c.args.self.now.start (map g.D.Digest.text c.args.self.now.digests.now) (g.H.Hasher.chunk c.args.hasher.now)) _ _ _
    c.in-None.ensures.steps.0 c.loop-first.invariant.folds
