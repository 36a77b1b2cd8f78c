use Rattle.std.proofs.Common.{◌≡◌, ℕ, List, take, option_map}
use Rattle.storage_merkle.specs.Hashers.{forward_of}
use Rattle.storage_merkle.specs.PlanParts.{AreOf, ArePlannedAll, peaks_by}
use Rattle.storage_merkle.specs.RangeProofs.{leading}
use Rattle.storage_merkle.specs.Rests.{peaks_from}
use Rattle.storage_merkle.proofs.Plan.Folds.{forward_from}
use Rattle.storage_merkle.proofs.merkle.plan.digests.Nodes.fold_leading.Given as goal

abbrev pub invariant-loop-first : goal.invariant-loop-first
invariant-loop-first g l = record {
  planned : ArePlannedAll g.F.Family.shape l.self.positions.now l.first-iterator;
  folds : (digest_of : ℕ → ℕ → List ℕ)
      → AreOf g.D.Digest.text g.F.Family.shape l.self.positions.now l.self.digests.now digest_of →
      forward_from g.H.Hasher.hash_of (option_map g.D.Digest.text l.folded) (peaks_by digest_of l.first-iterator)
      ≡ forward_of g.H.Hasher.hash_of (peaks_by digest_of (leading l.fn.start
      (take l.fn.peaks.folded (peaks_from g.F.Family.shape l.fn.peaks.first l.fn.peaks.left))));
}
