-- The peaks of a tree, one by one.
use Rattle.std.specs.Prelude.{◌≡◌, ℕ, ◌+◌, ◌^◌, ◌⊎◌, List, [], ◌∷◌, ◌-◌, ◌%◌, ◌<◌, ◌≤◌}
use Rattle.storage_merkle.specs.Shape.{Shape, AreAligned}

-- one of the peaks hs, which begin at the leaf s, is the node of height k with first leaf a
unfoldable pub HasPeak : List ℕ → ℕ → ℕ → ℕ → Type 0
HasPeak [] s a k = ⊥
HasPeak (h ∷ hs) s a k = ((a ≡ s) × (k ≡ h)) ⊎ HasPeak hs (s + 2 ^ h) a k

-- one step along the peaks
pub record Step (S : Shape) (s r h : ℕ) : Type 0 where
  pub within : 2 ^ h ≤ r
  pub small : h ≤ 62
  pub aligned : s % 2 ^ h ≡ 0
  pub fits : S.position s h < 2 ^ 64
  pub rest : AreAligned (S.peaks (r - 2 ^ h)) (s + 2 ^ h)
