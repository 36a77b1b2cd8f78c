-- What a check of a range proof answers, and what its yes means.
use Rattle.std.specs.Prelude.{◌≡◌, ◌≢◌, ℕ, ◌+◌, ◌≤◌, ◌⊎◌, List, length, Bool, Option, Some, None}
use Rattle.storage_codec.specs.Digests.{HashFunction, Cross}
use Rattle.storage_merkle.specs.declared.merkle.bagging.Bagging.{Bagging}
use Rattle.storage_merkle.specs.Trees.{Layout, Content, never, tree_root, tree_strings}
use Rattle.storage_merkle.specs.Chunked.{AreChunks}
use Rattle.storage_merkle.specs.RangeProofs.{Proof, apart, CountsFit, recomputed_root, check_strings, IsOwn}
use Rattle.storage_merkle.specs.Shape.{max_leaves}

-- the root that a check recomputes where the counts fit, and none where they don't
abbrev pub IsRecomputed : HashFunction → Layout → Bagging → Proof → ℕ → Content → Option (List ℕ) → Type 0
IsRecomputed h T b proof start claim None = CountsFit h T b proof start claim → ⊥
IsRecomputed h T b proof start claim (Some root) =
    CountsFit h T b proof start claim × (root ≡ recomputed_root h T b proof start claim)

-- Of each tree with that root, the proof is the tree's own and what it claims stands there, or a string of the check and a
-- different one of the tree have one digest. Digests have d bytes and grafted chunks N; which nodes have a chunk grafted may depend
-- on the number of leaves.
abbrev pub IsProved : ℕ → HashFunction → Layout → Bagging → Proof → ℕ → Content → List ℕ → Type 0
IsProved d h T b proof start claim root =
    (N : ℕ) (grafted : ℕ → ℕ → ℕ → Bool) →
    let over : ℕ → Layout = λ n. record { shape = T.shape; position = T.position; grafted = grafted n } in
    T ≡ over proof.leaves → N ≢ 8 + d →
    AreChunks N T proof.leaves (apart start (start + length claim.elements)) claim.chunk →
    (content : Content) (inactive : ℕ) →
    AreChunks N (over (length content.elements)) (length content.elements) never content.chunk →
    length content.elements ≤ max_leaves → inactive ≤ length (T.shape.peaks (length content.elements)) →
    tree_root h (over (length content.elements)) b content inactive ≡ root →
    IsOwn h (over (length content.elements)) b proof start claim content inactive
    ⊎ Cross h (check_strings h T b proof start claim)
    (tree_strings h (over (length content.elements)) b content inactive)
