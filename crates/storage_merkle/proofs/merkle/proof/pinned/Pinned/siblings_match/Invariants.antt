use Rattle.std.proofs.Common.{◌≡◌, ◌<◌, All, List, ℕ, map}
use Rattle.storage_merkle.specs.Calc.{Site, node}
use Rattle.storage_merkle.specs.PinnedParts.{AreNodesAt, digest_before}
use Rattle.storage_merkle.specs.Shape.{size}
use Rattle.storage_merkle.proofs.Pinned.Match.{Left}
use Rattle.storage_merkle.proofs.merkle.proof.pinned.Pinned.siblings_match.Given as goal

abbrev pub invariant-loop-position : goal.invariant-loop-position
invariant-loop-position g l = record {
  next : (goal.iterator-loop-position g).can_next l.position-iterator;
  ends : (goal.iterator-loop-position g).is_finite l.position-iterator;
  within : All (λ p. p < size g.F.Family.shape l.self.leaves) l.position-iterator.a.rest.now;
  so_far : (ss : List Site) (digest recomputed : Site → List ℕ)
      → AreNodesAt g.F.Family.shape l.self.leaves l.positions ss
      → ((a k : ℕ) → recomputed (node a k) ≡ digest_before g.H.Hasher.hash_of (g.H.Hasher.layout l.hasher) l.self.start
      (map g.D.Digest.text l.self.digests.now) (g.H.Hasher.chunk l.hasher) a k)
      → map g.D.Digest.text l.digests ≡ map digest ss → Left g.F.Family.shape g.met.F.Family.laws l.self.leaves
      l.self.start g.D.Digest.text digest recomputed ss l.position-iterator.a.rest.now l.position-iterator.b.rest.now;
}
