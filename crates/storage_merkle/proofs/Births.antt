-- When a node comes, wherever it stands.
use Rattle.std.proofs.Common.{◌≡◌, ℕ, ◌+◌, ◌-◌, ◌<◌, ◌≤◌, sym, ◌∙◌, arith}
use Rattle.storage_merkle.specs.Shape.{Shape, Laws, size}
use Rattle.storage_merkle.specs.Laws.Shape.{brought}
use Rattle.storage_merkle.specs.Nodes.{IsNode}

module _ (S : Shape) (L : Laws S) (n p a k : ℕ) (x : IsNode S p a k) (low : size S n ≤ p) (high : p < size S (n + 1)) where
  -- the greatest tree that has not got the node at p tells its first leaf
  pub comes_after : n + 1 ≡ a + S.birth 0 k
  comes_after = sym (brought S L n p a k x low high) ∙ L.moves a k

  pub first_leaf : IsNode S p (n + 1 - S.birth 0 k) k
  first_leaf = let e : n + 1 - S.birth 0 k ≡ a = omega (arith, comes_after) in rw e x

  pub first_birth : S.birth (n + 1 - S.birth 0 k) k ≡ n + 1
  first_birth = brought S L n p (n + 1 - S.birth 0 k) k first_leaf low high
