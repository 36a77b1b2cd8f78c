use Rattle.std.proofs.Common.{◌≡◌, ◌++◌, map, drop}
use Rattle.storage_merkle.specs.Extracted.{by_bytes}
use Rattle.storage_merkle.specs.Stores.{needed_refusal, suffix_positions}
use Rattle.storage_merkle.proofs.Store.Steps.{digest_of}
use Rattle.storage_merkle.proofs.merkle.proof_store.ProofStore.digests_at.Given as goal

abbrev pub invariant-loop-position : goal.invariant-loop-position
invariant-loop-position g l = record {
  refusal : needed_refusal g.row.F.Denot l.self (by_bytes g.D.Digest.text l.peaks)
      (suffix_positions g.F.Family.shape l.self) l.positions ≡ needed_refusal g.row.F.Denot l.self
      (by_bytes g.D.Digest.text l.peaks) (suffix_positions g.F.Family.shape l.self) (drop l.position-index l.positions);
  found : map g.D.Digest.text l.digests.items ++ map (digest_of g.row.F.Denot l.self (by_bytes g.D.Digest.text l.peaks)
      (suffix_positions g.F.Family.shape l.self)) (drop l.position-index l.positions) ≡ map (digest_of g.row.F.Denot
      l.self (by_bytes g.D.Digest.text l.peaks) (suffix_positions g.F.Family.shape l.self)) l.positions;
}
