use Rattle.std.proofs.Common.{◌≡◌, ◌+◌, ◌-◌, ◌≤◌, ◌++◌, ◌∷◌, [], ℕ, List, length, map, vec_len, vec_capacity}
use Rattle.storage_merkle.specs.Shape.{size}
use Rattle.storage_merkle.specs.Hashing.{node_over}
use Rattle.storage_merkle.specs.Kept.{HoldsDigests}
use Rattle.storage_merkle.proofs.merkle.mem.nodes.grow.Given as goal

abbrev pub invariant-loop-offset : goal.invariant-loop-offset
invariant-loop-offset g l =
    let S = g.F.Family.shape in
    let f = g.H.Digest.Digest.text in
    let N = node_over g.H.Hasher.hash_of (g.H.Hasher.layout l.hasher) (g.H.Hasher.chunk l.hasher) in
    let leaf = g.H.Digest.Digest.text l.leaf in
    record {
      room : vec_len l.nodes + (l.more - l.offset) ≤ vec_capacity l.nodes;
      kept_room : vec_capacity l.fn.nodes ≤ vec_capacity l.nodes;
      count : length l.nodes.items + size S l.boundary ≡ size S l.leaves + l.offset;
      held : (list : List (List ℕ)) (dirty : List ℕ) → length list ≡ l.leaves
          → HoldsDigests S (N list) dirty l.boundary (size S l.leaves) (map f l.pinned) (map f l.fn.nodes.items) → HoldsDigests S
          (N (list ++ leaf ∷ [])) dirty l.boundary (size S l.leaves + l.offset) (map f l.pinned) (map f l.nodes.items);
    }
