use Rattle.std.proofs.Common.{◌≡◌, ◌++◌, map}
use Rattle.storage_merkle.specs.Rests.{peaks_from}
use Rattle.storage_merkle.specs.StoreParts.{kept_met}
use Rattle.storage_merkle.specs.Trees.{ungrafted}
use Rattle.storage_merkle.specs.Walked.{walked}
use Rattle.storage_merkle.proofs.Walked.{all_listed}
use Rattle.storage_merkle.proofs.merkle.proof_store.ProofStore.add_peaks.Given as goal

abbrev pub invariant-loop-top : goal.invariant-loop-top
invariant-loop-top g l =
    let digest = kept_met g.H.Hasher.hash_of (ungrafted g.F.Family.shape) l.self in
    map g.D.Digest.text l.digests.items ++ all_listed (map digest l.top-iterator)
    ≡ map g.D.Digest.text l.fn.digests.items ++ all_listed (map digest (walked l.fn.start l.fn.end
    (peaks_from g.F.Family.shape l.fn.rest.first l.fn.rest.left) l.fn.rest.folded))
