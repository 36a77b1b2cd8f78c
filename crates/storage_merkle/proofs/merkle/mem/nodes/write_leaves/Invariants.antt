use Rattle.std.proofs.Common.{All, Contains, ◌≡◌, ◌≤◌, ◌<◌, ◌++◌, ℕ, List, length, map}
use Rattle.storage_merkle.specs.Shape.{size}
use Rattle.storage_merkle.specs.Hashing.{node_over}
use Rattle.storage_merkle.specs.Kept.{HoldsDigests}
use Rattle.storage_merkle.proofs.Rewriting.{Halfway}
use Rattle.storage_merkle.proofs.merkle.mem.nodes.write_leaves.Given as goal

abbrev pub invariant-loop-update : goal.invariant-loop-update
invariant-loop-update g l =
    let S = g.F.Family.shape in
    let f = g.H.Digest.Digest.text in
    let T = g.H.Hasher.layout l.hasher in
    let chunk = g.H.Hasher.chunk l.hasher in
    record {
      there : All (λ u. (l.boundary ≤ u.0) × (u.0 < l.leaves)) l.left;
      among : (j : ℕ) → Contains (map (λ u. u.0) l.left) j → Contains (map (λ u. u.0) l.fn.updates) j;
      held : (list : List (List ℕ)) (dirty : List ℕ) → length list ≡ l.leaves
          → HoldsDigests S (node_over g.H.Hasher.hash_of T chunk list) (map (λ u. u.0) l.fn.updates ++ dirty) l.boundary
          (size S l.leaves) (map f l.pinned) (map f l.fn.nodes) → Halfway S g.met.F.Family.laws g.H.Hasher.hash_of T
          chunk f list l.fn.updates l.left dirty l.boundary l.leaves (map f l.pinned) (map f l.nodes);
    }

abbrev pub decreases-loop-update : goal.decreases-loop-update
decreases-loop-update g l = length l.left
