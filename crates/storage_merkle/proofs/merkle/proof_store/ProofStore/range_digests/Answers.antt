use Rattle.std.proofs.Common.{◌≡◌, ◌++◌, map, option_map, refl, ap, ◌∙◌}
use Rattle.storage_merkle.specs.RangeProofs.{position_of}
use Rattle.storage_merkle.specs.Rests.{AreAfterLeading}
use Rattle.storage_merkle.specs.Siblings.{sibling_sites}
use Rattle.storage_merkle.specs.Stores.{Store}
use Rattle.storage_merkle.specs.Trees.{ungrafted}
use Rattle.storage_merkle.proofs.Check.Roots.{after_all}
use Rattle.storage_merkle.proofs.Walked.{pushed, listed}
use Rattle.storage_merkle.proofs.Store.Range.{adds_sibling, siblings_end, digests_are}
use Rattle.storage_merkle.proofs.merkle.proof_store.ProofStore.range_digests.Goals as goal

pub loop-position-init : goal.loop-position-init
loop-position-init g c = refl

pub loop-position-preserved : goal.loop-position-preserved
loop-position-preserved g c = adds_sibling g.H.Hasher.hash_of g.F.Family.shape c.args.self.now c.args.start c.args.end
    c.requires.range.0 c.requires.range.2 g.D.Digest.text _ c.loop-position.position-index c.position-item.result
    c.loop-position.digests.items _ c.at.result _ c.loop-position-test.true c.position-item.is c.at.ensures
    c.in_ok-push.ensures.items c.loop-position.invariant

pub returns : goal.returns
returns g c =
    let S = g.F.Family.shape in
    let h = g.H.Hasher.hash_of in
    let text = g.D.Digest.text in
    let store = c.args.self.now in
    let low = c.args.start in
    let high = c.args.end in
    let all = c.peaks.result in
    let r = c.after_leading-rest.result in
    let after : AreAfterLeading S low 0 store.leaves all.folded r.first r.left r.folded =
    after_all S low store.leaves all.folded all.first all.left r.first r.left r.folded c.peaks.ensures.first
    c.peaks.ensures.left c.after_leading-rest.ensures.after in
    let leaves : c.as_u64.result ≡ store.leaves = c.as_u64.ensures ∙ ap (λ (v : Store). v.leaves) c.self.view_is in
    let beside = c.in_ok-siblings.ensures
    ∙ ap (λ m. map (position_of (ungrafted S)) (sibling_sites (ungrafted S) m low high)) leaves in
    let one = pushed text c.fold_front.result _ _ c.in_ok-push_some.ensures
    ∙ ap (λ us. map text us ++ listed (option_map text c.fold_front.result)) c.new-digests.ensures.items in
    let last = siblings_end h S store low high c.requires.range.0 c.requires.range.2 _ c.loop-position.position-index
    (map text c.loop-position.digests.items) _ c.loop-position-test.false c.loop-position.invariant in
    digests_are h S store low high c.requires.range.0 c.requires.range.2 all.folded r.first r.left r.folded
    c.requires.range.1 c.peaks.ensures.folded after _ _ _ (option_map text c.fold_front.result)
    c.deref-position-items.result.now c.fold_front.ensures one c.in_ok-add_peaks.ensures
    (c.deref-position-items.ensures.value ∙ beside) last
