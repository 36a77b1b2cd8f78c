-- What a hasher of a tree family takes, and folds of digests step by step.
use Rattle.std.specs.Prelude.{ℕ, List, [], ◌∷◌, ◌++◌, ◌+◌, ◌^◌, ◌≤◌, ◌<◌, Contains, Option, Some, None}
use Rattle.storage_codec.specs.Digests.{HashFunction}
use Rattle.storage_merkle.specs.Shape.{Shape, size, max_leaves}
use Rattle.storage_merkle.specs.Hashing.{folded_forward}
use Rattle.storage_merkle.specs.Nodes.{IsNode}

-- node digests may be asked for at each position of the tree over n leaves
abbrev pub TakesTree : (ℕ → Type 0) → Shape → ℕ → Type 0
TakesTree takes S n = (p : ℕ) → n ≤ max_leaves → p < size S n → takes p

-- the node of height k with first leaf a stands at p, and is no leaf
abbrev pub IsInner : Shape → ℕ → ℕ → ℕ → Type 0
IsInner S p a k = IsNode S p a k × (1 ≤ k)

-- they may be asked for at each inner node that a tree gains while it grows from m leaves to n
abbrev pub TakesGrowth : (ℕ → Type 0) → Shape → ℕ → ℕ → Type 0
TakesGrowth takes S m n = (p a k : ℕ) → IsInner S p a k → size S m ≤ p → p < size S n → takes p

-- they may be asked for at each inner node of the tree over n leaves that covers a leaf of the list
abbrev pub TakesOver : (ℕ → Type 0) → Shape → ℕ → List ℕ → Type 0
TakesOver takes S n leaves = (p a k leaf : ℕ) → IsInner S p a k → p < size S n → Contains leaves leaf → a ≤ leaf
    → leaf < a + 2 ^ k → takes p

-- items folded from the left, or none
abbrev pub forward_of : HashFunction → List (List ℕ) → Option (List ℕ)
forward_of h [] = None
forward_of h (x ∷ xs) = Some (folded_forward h x xs)

-- what the items before an item are folded into, folded with it
abbrev pub appended : HashFunction → Option (List ℕ) → List ℕ → List ℕ
appended h None y = y
appended h (Some x) y = h (x ++ y)

-- an item folded with what the items after it are folded into
abbrev pub prepended : HashFunction → List ℕ → Option (List ℕ) → List ℕ
prepended h x None = x
prepended h x (Some y) = h (x ++ y)

-- items folded from the right onto what the items after them are folded into
abbrev pub folded_onto : HashFunction → List (List ℕ) → Option (List ℕ) → Option (List ℕ)
folded_onto h [] onto = onto
folded_onto h (x ∷ xs) onto = Some (prepended h x (folded_onto h xs onto))
