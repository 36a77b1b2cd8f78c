use Rattle.std.proofs.Common.{◌≡◌, ◌++◌, [], map, drop}
use Rattle.storage_merkle.specs.Stores.{entry_at, or_else}
use Rattle.storage_merkle.proofs.merkle.proof_store.ProofStore.range_digests.Given as goal

abbrev pub invariant-loop-position : goal.invariant-loop-position
invariant-loop-position g l =
    map g.D.Digest.text l.digests.items ++ map (λ p. or_else (g.H.Hasher.hash_of []) (entry_at p l.self.kept))
    (drop l.position-index l.position-items) ≡ map g.D.Digest.text l.initial.digests.items
    ++ map (λ p. or_else (g.H.Hasher.hash_of []) (entry_at p l.self.kept)) l.position-items
