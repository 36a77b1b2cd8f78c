-- What a tree in memory keeps, and for which lists of leaf digests it stands.
use Rattle.std.specs.Prelude.{◌≡◌, ℕ, ◌+◌, ◌-◌, ◌%◌, ◌^◌, ◌<◌, ◌≤◌, List, [], ◌∷◌, length, map, get_or, set, slice_index, Contains, Option, Some, None, leb, eqb, if◌then◌else◌}
use Rattle.std.specs.List.{slice_get}
use Rattle.storage_merkle.specs.Shape.{Shape, size, max_leaves}
use Rattle.storage_merkle.specs.Nodes.{placed}
use Rattle.storage_merkle.specs.Trees.{places}

pub record Kept (D : Type 0) : Type 0 where
  pub leaves : ℕ
  -- the leaves below it are forgotten
  pub boundary : ℕ
  -- the digests of the peaks over the boundary
  pub pinned : List D
  -- the digests of the nodes from the position of the boundary's leaf on
  pub nodes : List D
  -- how many digests there is room for from that position on
  pub room : ℕ

-- true of every tree in memory, also of one that stands for no list
pub record IsWhole (S : Shape) (leaves boundary pinned nodes : ℕ) : Type 0 where
  pub few : leaves ≤ max_leaves
  pub order : boundary ≤ leaves
  pub pins : pinned ≡ length (S.peaks boundary)
  pub count : nodes + size S boundary ≡ size S leaves

-- there is room for the nodes of so many more leaves
abbrev pub HasRoomFor : {D : Type 0} → Shape → ℕ → Kept D → Type 0
HasRoomFor S count m = size S (m.leaves + count) ≤ m.room + size S m.boundary

-- ---- what is kept at a position

-- the positions of the pinned nodes
abbrev pub pins : Shape → ℕ → List ℕ
pins S b = map (λ p. p.0) (placed S 0 (S.peaks b))

-- the digest beside a position
abbrev pub paired : {D : Type 0} → ℕ → List ℕ → List D → Option D
paired p [] ds = None
paired p (q ∷ qs) [] = None
paired p (q ∷ qs) (d ∷ ds) = if eqb q p then Some d else paired p qs ds

-- the kept digest at a position
abbrev pub kept_at : {D : Type 0} → Shape → ℕ → List D → List D → ℕ → Option D
kept_at S b pinned nodes p = if leb (size S b) p then slice_get nodes (p - size S b) else paired p (pins S b) pinned

-- ---- for which lists it stands

-- digests of the nodes over a list of leaf digests, by height and first leaf
abbrev pub NodesOver : Type 0
NodesOver = List (List ℕ) → ℕ → ℕ → List ℕ

-- the digests of peaks of these heights side by side, from a leaf on
abbrev pub at_peaks : (ℕ → ℕ → List ℕ) → ℕ → List ℕ → List (List ℕ)
at_peaks node a ks = map (λ p. node p.height p.first) (places a ks)

-- no dirty leaf is among the 2 ^ k leaves from a on
abbrev pub IsClean : List ℕ → ℕ → ℕ → Type 0
IsClean dirty a k = (j : ℕ) → Contains dirty j → a ≤ j → j < a + 2 ^ k → ⊥

-- the digests kept of the nodes below some position are these nodes', save over dirty leaves
pub record HoldsDigests (S : Shape) (node : ℕ → ℕ → List ℕ) (dirty : List ℕ) (boundary reach : ℕ)
    (pinned nodes : List (List ℕ)) : Type 0 where
  pub peaks : pinned ≡ at_peaks node 0 (S.peaks boundary)
  pub from : (a k : ℕ) → a % 2 ^ k ≡ 0 → size S boundary ≤ S.position a k → S.position a k < reach → IsClean dirty a k
      → get_or nodes (S.position a k - size S boundary) [] ≡ node k a

-- the tree is the list's, save over dirty leaves; a digest's bytes are told by `bytes_of`
pub record StandsBut {D : Type 0} (bytes_of : D → List ℕ) (S : Shape) (N : NodesOver) (dirty : List ℕ) (m : Kept D)
    (list : List (List ℕ)) : Type 0 where
  pub count : m.leaves ≡ length list
  pub holds : HoldsDigests S (N list) dirty m.boundary (size S m.leaves) (map bytes_of m.pinned) (map bytes_of m.nodes)

-- the tree is the list's
abbrev pub StandsFor : {D : Type 0} → (D → List ℕ) → Shape → NodesOver → Kept D → List (List ℕ) → Type 0
StandsFor bytes_of S N m list = StandsBut bytes_of S N [] m list

-- a list of leaf digests after some are put in, one after another
abbrev pub list_updated : List (List ℕ) → List (ℕ × List ℕ) → List (List ℕ)
list_updated list [] = list
list_updated list (e ∷ es) = list_updated (set list e.0 e.1) es

-- ---- refusals

-- the first of some leaves that is forgotten or not in the tree
pub record IsFirstAway (leaves boundary : ℕ) (list : List ℕ) (away : ℕ) : Type 0 where
  pub index : ℕ
  pub within : index < length list
  pub is : slice_index list index ≡ away
  pub before : (i : ℕ) → i < index → (boundary ≤ slice_index list i) × (slice_index list i < leaves)
