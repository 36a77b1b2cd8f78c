-- The steps of a pinned check.
use Rattle.std.specs.Prelude.{ℕ, ◌≡◌, ◌<◌, ◌≤◌, List, [], ◌∷◌, length, Bool, eqb, ◌||◌, Option, Some, None}
use Rattle.storage_codec.specs.Digests.{HashFunction}
use Rattle.storage_merkle.specs.Shape.{Shape, size, max_leaves}
use Rattle.storage_merkle.specs.Nodes.{IsNode}
use Rattle.storage_merkle.specs.Calc.{Site, node, eval}
use Rattle.storage_merkle.specs.declared.merkle.bagging.Bagging.{Bagging}
use Rattle.storage_merkle.specs.Trees.{Layout, Content, node_calc}
use Rattle.storage_merkle.specs.RangeProofs.{Proof, look_up, range_sites, check_values}
use Rattle.storage_merkle.specs.Rests.{peaks_from}
use Rattle.storage_merkle.specs.Pinned.{stands_in, peak_sites, pinned_sites, recomputed, Match}

-- the digests of the peaks over the leaves before a start, which is a leaf of a tree over n leaves
pub record ArePinned (S : Shape) (n start : ℕ) {D : Type 0} (pinned : List D) : Type 0 where
  pub few : n ≤ max_leaves
  pub within : start ≤ n
  pub count : length pinned ≡ length (S.peaks start)

-- whether a node is one of the peaks over the leaves before the start
abbrev pub is_pinned : Shape → ℕ → ℕ → ℕ → Bool
is_pinned S start a k = stands_in (peaks_from S 0 start) a k

-- the pinned digest of a node, or another one where it has none
abbrev pub pinned_digest : Shape → ℕ → List (List ℕ) → List ℕ → ℕ → ℕ → List ℕ
pinned_digest S start pinned none a k = look_up none (peak_sites (peaks_from S 0 start)) pinned (node a k)

-- the digest of a node before the start, from the pinned ones by node hashing
abbrev pub digest_before : HashFunction → Layout → ℕ → List (List ℕ) → (ℕ → List ℕ) → ℕ → ℕ → List ℕ
digest_before h T start pinned chunk a k =
    eval h (record {
      digest = look_up (h []) (peak_sites (peaks_from T.shape 0 start)) pinned;
      element = λ j. [];
      chunk = chunk;
    })
    (node_calc T (λ b j. eqb j 0 || is_pinned T.shape start b j) k a)

-- some nodes stand at positions, and each is in the tree over n leaves
abbrev pub AreNodesAt : Shape → ℕ → List ℕ → List Site → Type 0
AreNodesAt S n [] [] = Unit {0}
AreNodesAt S n (p ∷ ps) (node a k ∷ ss) = IsNode S p a k × (p < size S n) × AreNodesAt S n ps ss
AreNodesAt S n _ _ = ⊥

-- a fold, if there is one
abbrev pub as_list : Option (List ℕ) → List (List ℕ)
as_list None = []
as_list (Some x) = x ∷ []

-- the pinned digests are as many as the peaks over the leaves before the start, and the proof has the digests there that they give
pub record AgreesWith (h : HashFunction) (T : Layout) (b : Bagging) (proof : Proof) (start : ℕ) (claim : Content)
    (pinned : List (List ℕ)) : Type 0 where
  pub count : length pinned ≡ length (pinned_sites h T b proof start claim pinned)
  pub same : Match start (check_values h T b proof start claim).digest (recomputed h T b proof start claim pinned)
      (range_sites h T b proof start claim)
