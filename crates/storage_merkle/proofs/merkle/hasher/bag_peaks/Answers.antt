use Rattle.std.proofs.Common.{map, sym, ◌∙◌}
use Rattle.storage_merkle.proofs.Folds.{peaks_forward, peaks_backward}
use Rattle.storage_merkle.proofs.merkle.hasher.bag_peaks.Goals as goal

pub returns-in-ForwardFold : goal.returns-in-ForwardFold
returns-in-ForwardFold g c = c.bag_digests.ensures ∙ sym (peaks_forward g.H.Hasher.hash_of _ c.args.inactive
    (map g.H.Digest.Digest.text c.args.peaks.now) (sym c.root_bagging.ensures ∙ c.in-ForwardFold.is))

pub returns-in-BackwardFold : goal.returns-in-BackwardFold
returns-in-BackwardFold g c = c.bag_digests-in-BackwardFold.ensures
    ∙ peaks_backward g.H.Hasher.hash_of _ c.args.inactive g.H.Digest.Digest.text c.args.peaks.now _ _
    (sym c.root_bagging.ensures ∙ c.in-BackwardFold.is) c.split_at.ensures.front c.split_at.ensures.back
