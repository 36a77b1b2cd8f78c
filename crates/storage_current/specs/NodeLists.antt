-- Digests of nodes by position, and trees over operations.
use Rattle.std.specs.Prelude.{◌≡◌, ℕ, zero, suc, ◌+◌, ◌<◌, ◌≤◌, ◌⊎◌, List, [], ◌∷◌, length, Option, Some, None, IsSome, option_map}
use Rattle.storage_codec.specs.Digests.{HashFunction}
use Rattle.storage_merkle.specs.Hashing.{leaf_digests, node_over}
use Rattle.storage_merkle.specs.Kept.{Kept, NodesOver, HoldsDigests, StandsFor, kept_at}
use Rattle.storage_merkle.specs.Nodes.{IsNode}
use Rattle.storage_merkle.specs.Shape.{Shape, size, max_leaves}
use Rattle.storage_merkle.specs.Trees.{ungrafted}
use Rattle.storage_current.specs.Combined.{joined}
use Rattle.storage_current.specs.GraftedTrees.{IsPeak}

-- the node of height k at the position p is as high as those of chunks, or stands behind the leaves that are forgotten
abbrev pub IsRetained : Shape → (g boundary p k : ℕ) → Type 0
IsRetained S g boundary p k = (g ≤ k) ⊎ (size S boundary ≤ p)

-- Of a tree over n leaves the digest of each node that is retained is told, by its first leaf and height, and nothing of any other.
pub record AreNodes (S : Shape) (g boundary n : ℕ) (digest_of : ℕ → ℕ → List ℕ) (told : ℕ → Option (List ℕ)) : Type 0 where
  pub are : (p a k : ℕ) → IsNode S p a k → p < size S n → IsRetained S g boundary p k → told p ≡ Some (digest_of a k)
  pub forgotten : (p a k : ℕ) → IsNode S p a k → p < size S n → (IsRetained S g boundary p k → ⊥) → told p ≡ None
  pub past : (p : ℕ) → size S n ≤ p → told p ≡ None

-- ---- trees over operations

-- the digests of the nodes of a tree over operations, from those of its leaves
abbrev pub plain_over : HashFunction → Shape → NodesOver
plain_over h S = node_over h (ungrafted S) (λ a. [])

-- nothing of the tree in memory is forgotten
pub record IsUnpruned {D : Type 0} (m : Kept D) : Type 0 where
  pub unpruned : m.boundary ≡ 0
  pub unpinned : m.pinned ≡ []

-- it is over some leaves
pub record IsGrown {D : Type 0} (bytes_of : D → List ℕ) (h : HashFunction) (S : Shape) (m : Kept D) : Type 0 where
  pub few : m.leaves ≤ max_leaves
  pub list : List (List ℕ)
  pub stands : StandsFor bytes_of S (plain_over h S) m list

-- it is over these operations
abbrev pub IsOver : {D : Type 0} → (D → List ℕ) → HashFunction → Shape → Kept D → List (List ℕ) → Type 0
IsOver bytes_of h S m operations = StandsFor bytes_of S (plain_over h S) m (leaf_digests h (ungrafted S) 0 operations)

-- a tree over operations in memory: how many there are, and the digests of its nodes by position
pub record KeptTree : Type 0 where
  pub leaves : ℕ
  pub nodes : List (List ℕ)

-- it is the tree over these operations
pub record IsTreeOver (h : HashFunction) (S : Shape) (tree : KeptTree) (operations : List (List ℕ)) : Type 0 where
  pub leaves : tree.leaves ≡ length operations
  pub holds : HoldsDigests S (plain_over h S (leaf_digests h (ungrafted S) 0 operations)) [] 0 (size S tree.leaves) [] tree.nodes

-- ---- what a tree over operations and one over their chunks have as one, by position

-- what is told of so many positions from p on, and what such a list tells of a position
abbrev pub told_from : (ℕ → Option (List ℕ)) → ℕ → ℕ → List (Option (List ℕ))
told_from told p zero = []
told_from told p (suc n) = told p ∷ told_from told (p + 1) n

abbrev pub told_by : List (Option (List ℕ)) → ℕ → Option (List ℕ)
told_by [] p = None
told_by (x ∷ xs) zero = x
told_by (x ∷ xs) (suc p) = told_by xs p

-- what a tree in memory has from its boundary on
abbrev pub kept_from : {D : Type 0} → Shape → Kept D → ℕ → Option D
kept_from S m = kept_at S m.boundary [] m.nodes

-- the digest at a position, where chunks are over nodes of the height g
abbrev pub seen_in : {D : Type 0} → Shape → ℕ → Kept D → Kept D → ℕ → Option D
seen_in S g m c = joined S g (size S m.leaves) (kept_at S c.boundary c.pinned c.nodes) (kept_from S m)

-- what both as one have, by the bytes of the digests, and a list of all that
abbrev pub seen_by : {D : Type 0} → (D → List ℕ) → Shape → ℕ → Kept D → Kept D → ℕ → Option (List ℕ)
seen_by bytes_of S g m c p = option_map bytes_of (seen_in S g m c p)

abbrev pub seen_list : {D : Type 0} → (D → List ℕ) → Shape → ℕ → Kept D → Kept D → List (Option (List ℕ))
seen_list bytes_of S g m c = told_from (seen_by bytes_of S g m c) 0 (size S m.leaves)

-- each peak over n leaves has a digest
abbrev pub ArePeaksHad : {D : Type 0} → Shape → ℕ → (ℕ → Option D) → Type 0
ArePeaksHad S n answers = (a k : ℕ) → IsPeak (S.peaks n) 0 a k → IsSome (answers (S.position a k))

-- it is the node's
abbrev pub ArePeaksTold : Shape → ℕ → (ℕ → ℕ → List ℕ) → (ℕ → Option (List ℕ)) → Type 0
ArePeaksTold S n digest_of told = (a k : ℕ) → IsPeak (S.peaks n) 0 a k → told (S.position a k) ≡ Some (digest_of a k)
