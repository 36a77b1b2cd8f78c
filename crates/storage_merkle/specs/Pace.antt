-- How fast a tree over chunks grows beside the tree over their leaves.
use Rattle.std.specs.Prelude.{ℕ, ◌+◌, ◌*◌, ◌^◌, ◌≤◌}
use Rattle.storage_merkle.specs.Shape.{Shape, max_leaves}
use Rattle.storage_merkle.specs.Nodes.{AreGraftable}

-- over each node of at least the height g that is in the tree over n leaves, the tree over its r graftable chunks has one
abbrev pub ChunksKeepPace : Shape → ℕ → Type 0
ChunksKeepPace S g = (n r a k : ℕ) → AreGraftable S n g r → S.birth (a * 2 ^ g) (k + g) ≤ n → S.birth a k ≤ r

-- each node of the tree over the graftable chunks of a tree covers leaves that have a node in some tree: it may come before that one
abbrev pub ChunksStayWithin : Shape → ℕ → Type 0
ChunksStayWithin S g = (n r a k : ℕ) → n ≤ max_leaves → AreGraftable S n g r → S.birth a k ≤ r
    → S.birth (a * 2 ^ g) (k + g) ≤ max_leaves
