-- Trees over chunks that keep pins and leaves alone; and nodes that are rebuilt from those that are kept.
use Rattle.std.specs.Prelude.{◌≡◌, ℕ, zero, suc, ◌+◌, ◌*◌, ◌%◌, ◌<◌, ◌≤◌, ◌^◌, ◌⊎◌, List, [], ◌∷◌, ◌++◌, length, map, drop, Option, Some, None, IsSome, leb, if◌then◌else◌}
use Rattle.std.specs.Option.{option_or}
use Rattle.storage_codec.specs.Digests.{HashFunction}
use Rattle.storage_merkle.specs.Shape.{Shape, size, max_leaves}
use Rattle.storage_merkle.specs.Calc.{be8}
use Rattle.storage_merkle.specs.Kept.{NodesOver, at_peaks, paired, pins}
use Rattle.storage_current.specs.Combined.{first_at, height_at}

-- ---- what is kept

pub record KeptChunks (D : Type 0) : Type 0 where
  -- the chunks before it are pruned
  pub pruned : ℕ
  -- the digests of the peaks over the pruned chunks
  pub pinned : List D
  -- the digests of the other chunks
  pub leaves : List D

-- true of every tree over chunks, also of one that keeps no list's digests
pub record IsWholeGrafted (S : Shape) (pruned pinned leaves : ℕ) : Type 0 where
  pub few : pruned + leaves ≤ max_leaves
  pub pins : pinned ≡ length (S.peaks pruned)

-- The tree keeps a list of chunks' digests: those of the peaks over the pruned chunks, and the list from there on. A digest's bytes
-- are told by `bytes_of`.
pub record Keeps {D : Type 0} (bytes_of : D → List ℕ) (S : Shape) (N : NodesOver) (t : KeptChunks D) (list : List (List ℕ))
    : Type 0 where
  pub count : t.pruned + length t.leaves ≡ length list
  pub pins : map bytes_of t.pinned ≡ at_peaks (N list) 0 (S.peaks t.pruned)
  pub leaves : map bytes_of t.leaves ≡ drop t.pruned list

-- the positions of leaves side by side, from leaf a on, one for each of a list
abbrev pub leaf_places : {D : Type 0} → Shape → ℕ → List D → List ℕ
leaf_places S a [] = []
leaf_places S a (d ∷ ds) = size S a ∷ leaf_places S (a + 1) ds

-- the node of height k over the leaves from a on is one of the peaks hs, the first of which begins at the leaf s
abbrev pub IsPeak : List ℕ → ℕ → ℕ → ℕ → Type 0
IsPeak [] s a k = ⊥
IsPeak (h ∷ hs) s a k = ((s ≡ a) × (h ≡ k)) ⊎ IsPeak hs (s + 2 ^ h) a k

-- the digest at a position: a kept leaf's or a pin's, and no other node's
abbrev pub tree_at : {D : Type 0} → Shape → ℕ → List D → List D → ℕ → Option D
tree_at S pruned pinned leaves p = if leb (size S pruned) p
    then paired p (leaf_places S pruned leaves) leaves else paired p (pins S pruned) pinned

-- ---- what can be had from it

-- The node of height k over the leaves from a on is coverable by the nodes that are kept, where leaves have the height g: it is
-- kept, or it is above the leaves and both its halves are coverable.
abbrev pub IsCoverable : (ℕ → ℕ → Type 0) → ℕ → ℕ → ℕ → Type 0
IsCoverable kept g zero a = kept a zero
IsCoverable kept g (suc k) a =
    kept a (suc k) ⊎ ((g < suc k) × IsCoverable kept g k a × IsCoverable kept g k (a + 2 ^ k))

-- Each node is taken that is hashed to have the one of height k over the leaves from a on: none where it is kept or a leaf, else this
-- one and those of its halves.
abbrev pub TakesMade : (kept taken : ℕ → ℕ → Type 0) → ℕ → ℕ → Type 0
TakesMade kept taken zero a = Unit {0}
TakesMade kept taken (suc k) a =
    kept a (suc k) ⊎ (taken a (suc k) × TakesMade kept taken k a × TakesMade kept taken k (a + 2 ^ k))

-- the node of height k over the leaves from a on has a digest in a store
abbrev pub IsKeptIn : {D : Type 0} → Shape → (ℕ → Option D) → ℕ → ℕ → Type 0
IsKeptIn S kept a k = IsSome (kept (S.position a k))

-- what is made of two digests, where both can be had
abbrev pub made_of : {D : Type 0} → (D → D → D) → Option D → Option D → Option D
made_of join (Some l) (Some r) = Some (join l r)
made_of join (Some l) None = None
made_of join None right = None

-- The digest that can be had of the node of height k over the leaves from a on: the one that is kept, else the one that `join` makes
-- of those of its halves.
abbrev pub rebuilt : {D : Type 0} → Shape → (ℕ → ℕ → D → D → D) → (ℕ → Option D) → ℕ → ℕ → Option D
rebuilt S join kept zero a = kept (S.position a zero)
rebuilt S join kept (suc k) a = option_or (kept (S.position a (suc k)))
    (made_of (join a (suc k)) (rebuilt S join kept k a) (rebuilt S join kept k (a + 2 ^ k)))

-- the digest of a node over chunks of 2 ^ g leaves from those of its halves: it is hashed with the position of the node over the same
-- leaves
abbrev pub join_over : {D : Type 0} → (List ℕ → D) → (D → List ℕ) → Shape → ℕ → ℕ → ℕ → D → D → D
join_over digest bytes_of S g a k l r = digest (be8 (S.position (a * 2 ^ g) (k + g)) ++ (bytes_of l ++ bytes_of r))

-- the digest that can be had at a position of a tree over chunks
abbrev pub regrafted : {D : Type 0} → (List ℕ → D) → (D → List ℕ) → Shape → ℕ → (ℕ → Option D) → ℕ → Option D
regrafted digest bytes_of S g kept p =
    rebuilt S (join_over digest bytes_of S g) kept (height_at S p) (first_at S (height_at S p) p)

-- each node's digest is hashed from those of its halves so
abbrev pub IsHashedOver : HashFunction → Shape → ℕ → (ℕ → ℕ → List ℕ) → Type 0
IsHashedOver h S g node = (a k : ℕ) → node a (suc k) ≡ join_over h (λ bytes. bytes) S g a (suc k) (node a k) (node (a + 2 ^ k) k)
