-- The nodes of a tree by position.
use Rattle.std.specs.Prelude.{◌≡◌, ℕ, ◌+◌, ◌*◌, ◌%◌, ◌^◌, ◌<◌, ◌↔◌, List, [], ◌∷◌, ◌-◌, ◌/◌, ◌≤◌}
use Rattle.storage_merkle.specs.Shape.{Shape, Inside, max_leaves}

-- the node of height k with first leaf a stands at p
pub record IsNode (S : Shape) (p a k : ℕ) : Type 0 where
  pub aligned : a % 2 ^ k ≡ 0
  pub at : S.position a k ≡ p

-- the positions and heights of peaks of these heights, the first of which begins at the leaf s
abbrev pub placed : Shape → ℕ → List ℕ → List (ℕ × ℕ)
placed S s [] = []
placed S s (h ∷ hs) = (S.position s h, h) ∷ placed S (s + 2 ^ h) hs

-- the chunks of 2 ^ g leaves that lie inside one of the peaks over n leaves are just the first r
abbrev pub AreGraftable : Shape → ℕ → ℕ → ℕ → Type 0
AreGraftable S n g r = (j : ℕ) → (Inside (S.peaks n) 0 (j * 2 ^ g) g ↔ (j < r))

-- the node at p, of height g at least, covers the leaves that the chunks below the node at q cover
pub record CoversSame (S : Shape) (g q p : ℕ) : Type 0 where
  pub first : ℕ
  pub height : ℕ
  pub grafted : IsNode S q first height
  pub node : IsNode S p (first * 2 ^ g) (height + g)

-- what the way down needs
pub record Down (S : Shape) (a k g : ℕ) : Type 0 where
  pub small : k ≤ 62
  pub units : a / 2 ^ g % 2 ^ (k - g) ≡ 0
  pub fits : S.position (a / 2 ^ g) (k - g) < 2 ^ 64

-- what the way up needs
pub record Up (S : Shape) (a k g : ℕ) : Type 0 where
  pub small : k + g ≤ 62
  pub first : a * 2 ^ g ≤ max_leaves
  pub units : a * 2 ^ g % 2 ^ (k + g) ≡ 0
  pub fits : S.position (a * 2 ^ g) (k + g) < 2 ^ 64

-- the children of a node
pub record Children (S : Shape) (a k : ℕ) : Type 0 where
  pub small : k ≤ 62
  pub left : a % 2 ^ (k - 1) ≡ 0
  pub right : (a + 2 ^ (k - 1)) % 2 ^ (k - 1) ≡ 0
  pub first : a + 2 ^ (k - 1) < 2 ^ 63
  pub left_fits : S.position a (k - 1) < 2 ^ 64
  pub right_fits : S.position (a + 2 ^ (k - 1)) (k - 1) < 2 ^ 64
