use Rattle.std.proofs.Common.{◌≡◌, take, option_map, map}
use Rattle.storage_merkle.specs.Hashers.{forward_of}
use Rattle.storage_merkle.specs.PinnedParts.{digest_before}
use Rattle.storage_merkle.specs.PlanParts.{peaks_by}
use Rattle.storage_merkle.specs.Plans.{InTree}
use Rattle.storage_merkle.specs.RangeProofs.{leading}
use Rattle.storage_merkle.specs.Rests.{EachPeak, peaks_from}
use Rattle.storage_merkle.proofs.Plan.Folds.{forward_from}
use Rattle.storage_merkle.proofs.merkle.proof.pinned.Pinned.fold_leading.Given as goal

abbrev pub invariant-loop-first : goal.invariant-loop-first
invariant-loop-first g l =
    let digest_of = digest_before g.H.Hasher.hash_of (g.H.Hasher.layout l.hasher) l.self.start
    (map g.D.Digest.text l.self.digests.now) (g.H.Hasher.chunk l.hasher) in
    record {
      within : EachPeak (InTree g.F.Family.shape l.self.leaves) l.first-iterator;
      folds : forward_from g.H.Hasher.hash_of (option_map g.D.Digest.text l.folded) (peaks_by digest_of l.first-iterator)
          ≡ forward_of g.H.Hasher.hash_of (peaks_by digest_of (leading l.self.start
          (take l.fn.peaks.folded (peaks_from g.F.Family.shape l.fn.peaks.first l.fn.peaks.left))));
    }
