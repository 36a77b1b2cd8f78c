use Rattle.std.proofs.Common.{◌≡◌, ℕ, ◌++◌, List, map}
use Rattle.storage_merkle.specs.PlanParts.{AreOf, IsPlannedMet, met_digest}
use Rattle.storage_merkle.specs.Rests.{peaks_from}
use Rattle.storage_merkle.specs.Walked.{walked}
use Rattle.storage_merkle.proofs.Walked.{EachMet, all_listed}
use Rattle.storage_merkle.proofs.merkle.plan.digests.Nodes.add_peaks.Given as goal

abbrev pub invariant-loop-top : goal.invariant-loop-top
invariant-loop-top g l = record {
  planned : EachMet (IsPlannedMet g.F.Family.shape l.self.positions.now) l.top-iterator;
  adds : (digest_of : ℕ → ℕ → List ℕ)
      → AreOf g.D.Digest.text g.F.Family.shape l.self.positions.now l.self.digests.now digest_of →
      map g.D.Digest.text l.digests.items
      ++ all_listed (map (met_digest g.H.Hasher.hash_of digest_of) l.top-iterator)
      ≡ map g.D.Digest.text l.fn.digests.items ++ all_listed (map (met_digest g.H.Hasher.hash_of digest_of) (walked
      l.fn.start l.fn.end (peaks_from g.F.Family.shape l.fn.rest.first l.fn.rest.left) l.fn.rest.folded));
}
