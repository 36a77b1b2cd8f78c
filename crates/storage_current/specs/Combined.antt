-- Trees over chunks, whose leaves are the chunks' nodes of the tree over the operations; and both trees read as one.
use Rattle.std.specs.Prelude.{ℕ, ◌+◌, ◌-◌, ◌*◌, ◌/◌, ◌%◌, ◌^◌, ◌<◌, ◌≤◌, ◌&&◌, eqb, ltb, leb, if◌then◌else◌, Bool, Option, None}
use Rattle.storage_merkle.specs.Shape.{Shape, size, max_leaves}
use Rattle.storage_merkle.specs.Nodes.{IsNode, CoversSame}
use Rattle.storage_merkle.specs.Trees.{Layout}
use Rattle.storage_current.specs.Snapshots.{greatest}

-- the layout of a tree over chunks of 2 ^ g leaves: a node is hashed with the number of the node of the tree over the leaves which
-- covers the same leaves
abbrev pub over_chunks : ℕ → Layout → Layout
over_chunks g T = record {
  shape = T.shape;
  position = λ a k. T.position (a * 2 ^ g) (k + g);
  grafted = λ a k. T.grafted (a * 2 ^ g) (k + g);
}

-- the node at a position of a tree over chunks has a valid position in the tree over the leaves, and one that is taken
pub record IsRaised (S : Shape) (takes : ℕ → Type 0) (g p : ℕ) : Type 0 where
  pub low : 1 ≤ g
  pub valid : p ≤ size S max_leaves
  pub fits : (q : ℕ) → CoversSame S g p q → q ≤ size S max_leaves
  pub taken : (q : ℕ) → CoversSame S g p q → takes q

-- ---- both trees as one

-- the position is valid, one of so many, and of a node below the height g: of one of the operations' nodes
pub record IsOfOperations (S : Shape) (g nodes p : ℕ) : Type 0 where
  pub within : p < nodes
  pub valid : p ≤ size S max_leaves
  pub below : (a : ℕ) × (k : ℕ) × IsNode S p a k × (k < g)

-- the height of the node at a position, and the first leaf of a node of that height
unfoldable pub first_at : Shape → ℕ → ℕ → ℕ
first_at S k p = greatest (λ a. eqb (a % 2 ^ k) 0 && eqb (S.position a k) p) p

unfoldable pub height_at : Shape → ℕ → ℕ
height_at S p = greatest (λ k. eqb (S.position (first_at S k p) k) p) p

-- the position, in a tree over chunks of 2 ^ g leaves, of the node that covers the leaves of the node at p
unfoldable pub lowered : Shape → ℕ → ℕ → ℕ
lowered S g p = S.position (first_at S (height_at S p) p / 2 ^ g) (height_at S p - g)

-- the position is valid, and one of so many
abbrev pub is_within : Shape → ℕ → ℕ → Bool
is_within S nodes p = ltb p nodes && leb p (size S max_leaves)

-- the digest at a position: below the height g what is kept of the operations' nodes, else what is kept over chunks
abbrev pub joined : {D : Type 0} → Shape → ℕ → ℕ → (ℕ → Option D) → (ℕ → Option D) → ℕ → Option D
joined S g nodes chunks operations p =
    if is_within S nodes p then (if ltb (height_at S p) g then operations p else chunks (lowered S g p)) else None
