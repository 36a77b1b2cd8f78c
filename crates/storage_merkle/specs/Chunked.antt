-- The length of chunks, where they are grafted.
use Rattle.std.specs.Prelude.{◌≡◌, ℕ, ◌%◌, ◌^◌, ◌≤◌, List, length, Bool, true, false}
use Rattle.storage_merkle.specs.Shape.{Inside}
use Rattle.storage_merkle.specs.Trees.{Layout}

-- each chunk grafted over a node of the tree over n leaves, but for nodes that `cut` names, has N bytes; what stands for a chunk
-- elsewhere isn't hashed, and has any length
abbrev pub AreChunks : ℕ → Layout → ℕ → (ℕ → ℕ → Bool) → (ℕ → List ℕ) → Type 0
AreChunks N T n cut chunk = (a k : ℕ) → 1 ≤ k → T.grafted a k ≡ true → a % 2 ^ k ≡ 0 → Inside (T.shape.peaks n) 0 a k
    → cut a k ≡ false → length (chunk a) ≡ N
