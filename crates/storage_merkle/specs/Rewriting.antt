-- What is kept while a leaf and the nodes over it are written anew.
use Rattle.std.specs.Prelude.{◌≡◌, ℕ, ◌+◌, ◌-◌, ◌*◌, ◌/◌, ◌%◌, ◌^◌, ◌<◌, ◌≤◌, ◌⊎◌, List, [], get_or, Contains, Option, Some}
use Rattle.storage_merkle.specs.Shape.{Shape, size}
use Rattle.storage_merkle.specs.Kept.{at_peaks, IsClean}

-- the first leaf of the node of height k over a leaf
abbrev pub over : ℕ → ℕ → ℕ
over place k = place / 2 ^ k * 2 ^ k

-- the digests kept of the nodes below some position are these nodes', save over dirty leaves, and save over one leaf from some height on
pub record WrittenBelow (S : Shape) (node : ℕ → ℕ → List ℕ) (dirty : List ℕ) (place height boundary reach : ℕ)
    (pinned nodes : List (List ℕ)) : Type 0 where
  pub peaks : pinned ≡ at_peaks node 0 (S.peaks boundary)
  pub from : (a k : ℕ) → a % 2 ^ k ≡ 0 → size S boundary ≤ S.position a k → S.position a k < reach → IsClean dirty a k
      → (k < height) ⊎ (a ≤ place → place < a + 2 ^ k → ⊥)
      → get_or nodes (S.position a k - size S boundary) [] ≡ node k a

-- the next leaf, if there is one, is among the dirty ones
abbrev pub IsNext : Option ℕ → List ℕ → Type 0
IsNext next dirty = (n : ℕ) → next ≡ Some n → Contains dirty n

-- the next leaf is among the 2 ^ k leaves from a on
abbrev pub Reaches : Option ℕ → ℕ → ℕ → Type 0
Reaches next a k = (n : ℕ) × (next ≡ Some n) × (a ≤ n) × (n < a + 2 ^ k)
