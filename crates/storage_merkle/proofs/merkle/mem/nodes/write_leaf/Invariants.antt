use Rattle.std.proofs.Common.{◌≡◌, ◌∷◌, [], ℕ, List, map, get_or}
use Rattle.storage_merkle.specs.Shape.{size}
use Rattle.storage_merkle.specs.Hashing.{node_over}
use Rattle.storage_merkle.specs.Kept.{HoldsDigests}
use Rattle.storage_merkle.specs.Rewriting.{WrittenBelow}
use Rattle.storage_merkle.proofs.merkle.mem.nodes.write_leaf.Given as goal

abbrev pub invariant-loop-height : goal.invariant-loop-height
invariant-loop-height g l =
    let N = node_over g.H.Hasher.hash_of (g.H.Hasher.layout l.hasher) (g.H.Hasher.chunk l.hasher) in
    (list : List (List ℕ)) (rest : List ℕ) → HoldsDigests g.F.Family.shape (N list) (l.place ∷ rest) l.boundary
    (size g.F.Family.shape l.leaves) (map g.H.Digest.Digest.text l.pinned) (map g.H.Digest.Digest.text l.fn.nodes)
    → get_or list l.place [] ≡ g.H.Digest.Digest.text l.fn.digest
    → WrittenBelow g.F.Family.shape (N list) rest l.place l.height l.boundary (size g.F.Family.shape l.leaves)
    (map g.H.Digest.Digest.text l.pinned) (map g.H.Digest.Digest.text l.nodes)
