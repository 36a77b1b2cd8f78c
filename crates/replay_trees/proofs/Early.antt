-- Nodes that come early stand early.
use Rattle.std.proofs.Common.{ℕ, ◌+◌, ◌*◌, ◌^◌, ◌≤◌, sym, ◌∙◌, arith}
use Rattle.storage_merkle.specs.Shape.{Shape, Laws, size}
use Rattle.storage_merkle.specs.Nodes.{IsNode, CoversSame}

-- a node that comes among n leaves stands among their nodes
pub early_position : (S : Shape) → Laws S → (n p a k : ℕ) → IsNode S p a k → S.birth a k ≤ n → p ≤ size S n
early_position S L n p a k node h =
    let below = (L.born n a k node.aligned).1 h in
    let at = node.at in
    omega arith

-- so does the node that covers the same leaves as another
pub covers_early : (S : Shape) → Laws S → (n g q a k : ℕ) → IsNode S q a k → S.birth (a * 2 ^ g) (k + g) ≤ n → (p : ℕ)
    → CoversSame S g q p → p ≤ size S n
covers_early S L n g q a k node h p c =
    let same = L.injective a k c.first c.height node.aligned c.grafted.aligned (node.at ∙ sym c.grafted.at) in
    early_position S L n p (c.first * 2 ^ g) (c.height + g) c.node (rw (← same.0, ← same.1) h)
