-- What holds of every tree and every check.
use Rattle.std.specs.Prelude.{◌≡◌, ◌≢◌, ℕ, ◌+◌, ◌<◌, ◌≤◌, ◌^◌, ◌⊎◌, List, [], ◌∷◌, ◌++◌, length, Bool}
use Rattle.std.specs.List.Sorted.{IsPermutation}
use Rattle.storage_codec.specs.Digests.{HashFunction, IsSized, Cross}
use Rattle.storage_merkle.specs.Shape.{Shape, Laws, max_leaves}
use Rattle.storage_merkle.specs.Calc.{Site}
use Rattle.storage_merkle.specs.declared.merkle.bagging.Bagging.{Bagging}
use Rattle.storage_merkle.specs.Trees.{Layout, Content, never, peaks_of, folded, unfolded, tree_root, tree_strings}
use Rattle.storage_merkle.specs.RangeProofs.{Proof, apart, not_leading, up_to, sites_in, position_of, sites, check_strings, IsAccepted, IsOwn, AreDigests}
use Rattle.storage_merkle.specs.Chunked.{AreChunks}
use Rattle.storage_merkle.specs.Hashing.{leaf_digests, peak_digests, root_of}

-- A range proof that is accepted against a tree's root is the tree's own, and what it claims stands there, or a string of the
-- check and a different one of the tree have one digest. Digests have d bytes and grafted chunks N; which nodes have a chunk
-- grafted may depend on the number of leaves.
abbrev pub RangeProofsAreSound : Type 0
RangeProofsAreSound =
    (d N : ℕ) (h : HashFunction) → IsSized d h → N ≢ 8 + d →
    (S : Shape) → Laws S → (position : ℕ → ℕ → ℕ) (grafted : ℕ → ℕ → ℕ → Bool) →
    let over : ℕ → Layout = λ n. record { shape = S; position = position; grafted = grafted n } in
    (b : Bagging) (proof : Proof) (start : ℕ) (claim : Content) → AreDigests d proof.digests
    → AreChunks N (over proof.leaves) proof.leaves (apart start (start + length claim.elements)) claim.chunk →
    (content : Content) (inactive : ℕ)
    → AreChunks N (over (length content.elements)) (length content.elements) never content.chunk →
    length content.elements ≤ max_leaves → inactive ≤ length (S.peaks (length content.elements)) →
    IsAccepted h (over proof.leaves) b proof start claim
    (tree_root h (over (length content.elements)) b content inactive) →
    IsOwn h (over (length content.elements)) b proof start claim content inactive
    ⊎ Cross h (check_strings h (over proof.leaves) b proof start claim)
    (tree_strings h (over (length content.elements)) b content inactive)

-- A tree's own proof of some elements that stand in it is accepted against its root.
abbrev pub OwnRangeProofsAreAccepted : Type 0
OwnRangeProofsAreAccepted =
    (h : HashFunction) (T : Layout) → Laws T.shape →
    (b : Bagging) (proof : Proof) (start : ℕ) (claim content : Content) (inactive : ℕ) →
    length content.elements ≤ max_leaves → inactive ≤ length (T.shape.peaks (length content.elements))
    → 0 < length claim.elements →
    IsOwn h T b proof start claim content inactive →
    IsAccepted h T b proof start claim (tree_root h T b content inactive)

-- what a root says of its tree beside the digests of its peaks
pub record AreAlike (T U : Layout) (b c : Bagging) (x y : Content) (i j : ℕ) : Type 0 where
  pub family : T.shape.byte ≡ U.shape.byte
  pub bagging : b ≡ c
  pub leaves : length x.elements ≡ length y.elements
  pub inactive : i ≡ j

-- Two trees with one root are of one family, of one bagging, and of as many leaves and inactive peaks, or a string of the first
-- and a different one of the second have one digest.
abbrev pub RootsBindTheirTrees : Type 0
RootsBindTheirTrees =
    (h : HashFunction) (T U : Layout) (b c : Bagging) (x y : Content) (i j : ℕ) →
    length x.elements < 2 ^ 64 → length y.elements < 2 ^ 64 → i < 2 ^ 64 → j < 2 ^ 64 →
    tree_root h T b x i ≡ tree_root h U c y j →
    AreAlike T U b c x y i j ⊎ Cross h (tree_strings h T b x i) (tree_strings h U c y j)

-- ascending by position
abbrev pub Ascends : Layout → List Site → Type 0
Ascends T [] = Unit {0}
Ascends T (s ∷ []) = Unit {0}
Ascends T (s ∷ (t ∷ ss)) = (position_of T s ≤ position_of T t) × Ascends T (t ∷ ss)

-- the digests of a proof end with the siblings inside the peaks that share a leaf with the range, ascending by position
pub record EndsAscending (T : Layout) (b : Bagging) (n i low high : ℕ) : Type 0 where
  pub before : List Site
  pub siblings : List Site
  pub all : sites T low high b n i ≡ before ++ siblings
  pub inside : IsPermutation (sites_in T (apart low high) (up_to high (not_leading low (folded b i (peaks_of T n))))
      ++ sites_in T (apart low high) (up_to high (not_leading low (unfolded b i (peaks_of T n))))) siblings
  pub ascending : Ascends T siblings

abbrev pub SiblingsAscend : Type 0
SiblingsAscend = (T : Layout) (b : Bagging) (n i low high : ℕ) → EndsAscending T b n i low high

-- The root of a tree is the root of its peaks' digests, which are calculated from its leaves' digests.
abbrev pub RootsAreOfLeaves : Type 0
RootsAreOfLeaves =
    (h : HashFunction) (T : Layout) → Laws T.shape → (b : Bagging) (content : Content) (inactive : ℕ) →
    let leaves : List (List ℕ) = leaf_digests h T 0 content.elements in
    tree_root h T b content inactive ≡ root_of h T b (length content.elements) inactive
    (peak_digests h T content.chunk leaves (length content.elements))
