-- What an authenticated bitmap keeps, and for which lists of bits it stands.
use Rattle.std.specs.Prelude.{◌≡◌, ℕ, ◌*◌, ◌/◌, ◌<◌, ◌≤◌, ◌⊎◌, List, [], length, map, take, slice_index, Bool}
use Rattle.storage_codec.specs.Digests.{HashFunction}
use Rattle.storage_merkle.specs.Mmr.{mmr}
use Rattle.storage_merkle.specs.Trees.{ungrafted}
use Rattle.storage_merkle.specs.Hashing.{leaf_digests, node_over}
use Rattle.storage_merkle.specs.Kept.{Kept, NodesOver, StandsBut, at_peaks, pins}
use Rattle.storage_merkle.specs.declared.merkle.bagging.Bagging.{Bagging}
use Rattle.storage_merkle.specs.declared.merkle.error.Error.{Error}
use Rattle.storage_merkle.specs.declared.merkle.error.Error.TheVariants.{MissingNode, DataCorrupted, Memory}
use Rattle.storage_merkle.specs.Shape.{max_leaves}
use Rattle.storage_bitmap.specs.Chunks.{IsChunkSize, Retained, IsRest, bit_count, chunks_from}
use Rattle.storage_bitmap.specs.BitRoots.{bit_root}

-- what an authenticated bitmap keeps: its retained bits, a tree, and whether the tree is that of the bits
pub record Authenticated (D M : Type 0) : Type 0 where
  pub retained : Retained
  -- the tree over the complete chunks
  pub tree : Kept D
  -- whether the tree is that of the bits
  pub state : M

-- true of every bitmap, also of one that stands for no list; `fits` tells what its state asks of the pruned chunks, of
-- the tree's leaves, and of the complete chunks
pub record IsWholeMap {D : Type 0} (n : ℕ) (retained : Retained) (tree : Kept D)
    (fits : ℕ → ℕ → ℕ → Type 0) : Type 0 where
  pub size : IsChunkSize n
  pub few : bit_count n retained ≤ max_leaves
  pub boundary : tree.boundary ≡ retained.pruned
  pub order : tree.boundary ≤ tree.leaves
  pub leaves : tree.leaves ≤ bit_count n retained / (8 * n)
  pub state : fits retained.pruned tree.leaves (bit_count n retained / (8 * n))

-- the digests of the leaves that the first c chunks of n bytes are
abbrev pub chunk_digests : HashFunction → ℕ → List Bool → ℕ → List (List ℕ)
chunk_digests h n bits c = leaf_digests h (ungrafted mmr) 0 (chunks_from n bits c 0)

-- the digests of nodes, from those of leaves
abbrev pub chunk_nodes : HashFunction → NodesOver
chunk_nodes h = node_over h (ungrafted mmr) (λ a. [])

-- the retained bits are these bits' rest, and the digests of the tree are those over their chunks, save over dirty
-- chunks; a digest's bytes are told by `bytes_of`
pub record StandsForBits {D M : Type 0} (bytes_of : D → List ℕ) (h : HashFunction) (n : ℕ) (b : Authenticated D M)
    (dirty : List ℕ) (bits : List Bool) : Type 0 where
  pub rest : IsRest n b.retained bits
  pub digests : StandsBut bytes_of mmr (chunk_nodes h) dirty b.tree (chunk_digests h n bits b.tree.leaves)

-- no chunk is dirty, each complete chunk is in the tree, and the root is that of these bits
pub record StandsMerkleized {D M : Type 0} (bytes_of : D → List ℕ) (h : HashFunction) (bagging : Bagging) (n : ℕ)
    (b : Authenticated D M) (root : D) (bits : List Bool) : Type 0 where
  pub stands : StandsForBits bytes_of h n b [] bits
  pub whole : b.tree.leaves ≡ length bits / (8 * n)
  pub root_is : bytes_of root ≡ bit_root h bagging n bits

-- the digests are those of the peaks over so many chunks, which these bits fill; digests past those say nothing
pub record IsPrunedState {D : Type 0} (bytes_of : D → List ℕ) (h : HashFunction) (n count : ℕ) (pinned : List D)
    (bits : List Bool) : Type 0 where
  pub filled : length bits ≡ count * (8 * n)
  pub peaks : map bytes_of (take (length (mmr.peaks count)) pinned)
      ≡ at_peaks (chunk_nodes h (chunk_digests h n bits count)) 0 (mmr.peaks count)

-- the text of the refusal is not told
abbrev pub IsCorrupted : {F : Type 0} → Error F → Type 0
IsCorrupted (DataCorrupted text) = Unit {0}
IsCorrupted _ = ⊥

-- why no bitmap is made from so many pruned chunks and so many digests: the bits are too many; a peak has no digest,
-- the first of which is named; memory
abbrev pub IsBitmapRefused : {F : Type 0} → ℕ → ℕ → ℕ → Error F → Type 0
IsBitmapRefused n count given error =
    ((max_leaves < count * (8 * n)) × IsCorrupted error)
    ⊎ ((count * (8 * n) ≤ max_leaves) × (given < length (mmr.peaks count))
    × (error ≡ MissingNode (slice_index (pins mmr count) given)))
    ⊎ ((count * (8 * n) ≤ max_leaves) × (length (mmr.peaks count) ≤ given) × (error ≡ Memory))

-- Two bitmaps that stand for the same bits under one digest function and bagging have the same root, whatever is
-- pruned of either.
abbrev pub EqualBitsHaveEqualRoots : Type 0 → Type 0 → Type 0
EqualBitsHaveEqualRoots D M =
    (bytes_of : D → List ℕ) (h : HashFunction) (bagging : Bagging) (n : ℕ) (a b : Authenticated D M) (root other : D)
    (bits : List Bool) → StandsMerkleized bytes_of h bagging n a root bits → StandsMerkleized bytes_of h bagging n b other bits
    → bytes_of root ≡ bytes_of other
