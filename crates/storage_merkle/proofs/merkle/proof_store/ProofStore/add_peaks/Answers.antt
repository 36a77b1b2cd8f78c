use Rattle.std.proofs.Common.{◌++◌, map, ap, ◌∙◌}
use Rattle.storage_merkle.specs.Rests.{peaks_from}
use Rattle.storage_merkle.specs.StoreParts.{kept_met}
use Rattle.storage_merkle.specs.Trees.{ungrafted}
use Rattle.storage_merkle.proofs.Store.Range.{kept_are}
use Rattle.storage_merkle.proofs.Walked.{adds_met, adds_none, all_listed}
use Rattle.storage_merkle.proofs.merkle.proof_store.ProofStore.add_peaks.Goals as goal

pub loop-top-init : goal.loop-top-init
loop-top-init g c = ap (λ ms. map g.D.Digest.text c.args.digests.now.items ++ all_listed
    (map (kept_met g.H.Hasher.hash_of (ungrafted g.F.Family.shape) c.args.self.now) ms))
    (c.into_iter-top-iterator.ensures.into_iter_gives ∙ c.apart-top-items.ensures)

pub top-requires : goal.top-requires
top-requires g c = c.in-Some.ensures.steps.1

pub loop-top-preserved : goal.loop-top-preserved
loop-top-preserved g c = adds_met g.D.Digest.text (kept_met g.H.Hasher.hash_of (ungrafted g.F.Family.shape)
    c.args.self.now) c.top.result _ _ _ _ _ _ c.in-Some.ensures.steps.0 c.top.ensures c.in_ok-push_some.ensures
    c.loop-top.invariant

pub returns : goal.returns
returns g c =
    let r = c.args.rest in
    let S = g.F.Family.shape in
    let h = g.H.Hasher.hash_of in
    adds_none (kept_met h (ungrafted S) c.args.self.now) _ _ _ c.in-None.ensures.steps.0 c.loop-top.invariant
    ∙ ap (λ ds. map g.D.Digest.text c.args.digests.now.items ++ ds) (kept_are h S c.args.self.now c.args.start c.args.end
    c.requires.range.0 c.requires.range.1 (peaks_from S r.first r.left) r.folded c.requires.late)
