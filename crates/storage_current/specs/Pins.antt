-- Grafted views of which the first chunks are told by pins alone: the digests of the peaks over them.
use Rattle.std.specs.Prelude.{◌≡◌, ◌⊎◌, ℕ, ◌+◌, ◌-◌, ◌*◌, ◌/◌, ◌^◌, ◌<◌, ◌≤◌, ◌||◌, Bool, List, [], ◌∷◌, length, map, leb, ltb, if◌then◌else◌, Option, is_some, option_map, unwrap_or}
use Rattle.storage_codec.specs.Digests.{HashFunction, IsSized, Cross}
use Rattle.storage_merkle.specs.declared.merkle.bagging.Bagging.TheVariants.{BackwardFold}
use Rattle.storage_merkle.specs.Calc.{Site, front, back, node, Calc, Values}
use Rattle.storage_merkle.specs.Hashing.{leaf_digests}
use Rattle.storage_merkle.specs.Kept.{at_peaks}
use Rattle.storage_merkle.specs.RangeProofs.{AreDigests}
use Rattle.storage_merkle.specs.Shape.{Shape, max_leaves, size}
use Rattle.storage_merkle.specs.Trees.{ungrafted, part, peaks_of, folded, unfolded, bag, root_string, strings_bag}
use Rattle.storage_current.specs.Combined.{joined}
use Rattle.storage_current.specs.CombinedViews.{AnswersAreTrue, grafted_node}
use Rattle.storage_current.specs.GraftedTrees.{IsPeak, KeptChunks, regrafted, tree_at}
use Rattle.storage_current.specs.NodeLists.{plain_over}
use Rattle.storage_current.specs.Snapshots.{Grafting, IsGrafting, Snapshot, IsSnapshot, aligned, height, view, view_node, grafted_root_of, snapshot_strings}

-- ---- pins

-- each peak over so many chunks covers the operations of a node of the tree over n operations, so that the view has its digest
abbrev pub HavePins : Grafting → (n chunks : ℕ) → Type 0
HavePins g n chunks =
    (a k : ℕ) → IsPeak (g.shape.peaks chunks) 0 a k → g.shape.birth (a * 2 ^ height g) (k + height g) ≤ n

-- the view's digests of these nodes, in leaf order
abbrev pub chunk_pins : HashFunction → Grafting → Snapshot → ℕ → List (List ℕ)
chunk_pins h g s chunks = at_peaks (λ k a. grafted_node h g s a k) 0 (g.shape.peaks chunks)

-- those of the peaks over the first operations
abbrev pub operation_pins : HashFunction → Grafting → Snapshot → ℕ → List (List ℕ)
operation_pins h g s count =
    at_peaks (plain_over h g.shape (leaf_digests h (ungrafted g.shape) 0 s.operations)) 0 (g.shape.peaks count)

-- ---- the grafted root that digests give

-- digests over chunks by position in their tree, and digests of lower nodes by first leaf and height
module _ (h : HashFunction) (g : Grafting) (kept : ℕ → Option (List ℕ)) (low : ℕ → ℕ → List ℕ) where
  -- what is kept of a node at least as high as those of chunks
  abbrev pub kept_over : ℕ → ℕ → Option (List ℕ)
  kept_over a k = kept (g.shape.position (a / 2 ^ height g) (k - height g))

  -- the digest is given: of a node up to the height of chunks, and of a higher one that is kept
  abbrev pub is_told : ℕ → ℕ → Bool
  is_told a k = leb k (height g) || is_some (kept_over a k)

  abbrev pub told_digest : Site → List ℕ
  told_digest front = h []
  told_digest back = h []
  told_digest (node a k) = if ltb k (height g) then low a k else unwrap_or (kept_over a k) (h [])

  abbrev pub told_values : Values
  told_values = record { digest = told_digest; element = λ j. []; chunk = λ a. [] }

  -- the view over n operations, of whose peaks i are inactive, as it is calculated from these
  abbrev pub told_bag : ℕ → ℕ → Option Calc
  told_bag n i = bag (map (part (view g n) is_told) (folded BackwardFold i (peaks_of (view g n) n)))
      (map (part (view g n) is_told) (unfolded BackwardFold i (peaks_of (view g n) n)))

  abbrev pub told_string : ℕ → ℕ → List ℕ
  told_string n i = root_string h told_values (view g n) BackwardFold n i (told_bag n i)

  -- each string given to the digest function for that root
  abbrev pub told_strings : ℕ → ℕ → List (List ℕ)
  told_strings n i = told_string n i ∷ strings_bag h told_values (told_bag n i)

-- pins of the first chunks, and the digests of the chunks behind them, that are of d bytes, and so are the digests of lower nodes
pub record AreTold (d : ℕ) (g : Grafting) (chunks : ℕ) (pins grafts : List (List ℕ)) (low : ℕ → ℕ → List ℕ) : Type 0 where
  pub count : length pins ≡ length (g.shape.peaks chunks)
  pub pinned : AreDigests d pins
  pub behind : AreDigests d grafts
  pub below : (a k : ℕ) → length (low a k) ≡ d

-- Where the grafted root that they give is a snapshot's, there are as many operations as in it and the pins are the view's digests, or
-- two different strings have one digest, one hashed for that root and one for the snapshot's.
abbrev pub PinsAreBound : Type 0
PinsAreBound =
    (d : ℕ) (h : HashFunction) → (d ≡ 32) ⊎ (d ≡ 64) → IsSized d h → (g : Grafting) → IsGrafting g →
    (chunks n i : ℕ) (pins grafts : List (List ℕ)) (low : ℕ → ℕ → List ℕ) → AreTold d g chunks pins grafts low →
    HavePins g n chunks → n ≤ max_leaves → i ≤ length (g.shape.peaks n) → (s : Snapshot) → IsSnapshot s →
    h (told_string h g (tree_at g.shape chunks pins grafts) low n i) ≡ grafted_root_of h g s →
    (n ≡ length s.operations) × (pins ≡ chunk_pins h g s chunks)
    ⊎ Cross h (told_strings h g (tree_at g.shape chunks pins grafts) low n i) (snapshot_strings h g s)

-- ---- what trees keep, by the bytes of their digests

-- over chunks, by position
abbrev pub kept_texts : {D : Type 0} → (D → List ℕ) → Shape → KeptChunks D → ℕ → Option (List ℕ)
kept_texts bytes_of S t = tree_at S t.pruned (map bytes_of t.pinned) (map bytes_of t.leaves)

-- of the operations' nodes, by first leaf and height
abbrev pub low_texts : {D : Type 0} → HashFunction → (D → List ℕ) → Shape → (ℕ → Option D) → ℕ → ℕ → List ℕ
low_texts h bytes_of S below a k = unwrap_or (option_map bytes_of (below (S.position a k))) (h [])

-- what can be had of the view over n operations from both
abbrev pub had_of_view : {D : Type 0} → (List ℕ → D) → (D → List ℕ) → Grafting → ℕ → KeptChunks D → (ℕ → Option D) → ℕ → Option D
had_of_view digest bytes_of g n t below = joined g.shape (height g) (size g.shape n)
    (regrafted digest bytes_of g.shape (height g) (tree_at g.shape t.pruned t.pinned t.leaves)) below

-- What it means that this root is calculated from them: of each snapshot with that grafted root, there are as many operations as in it
-- and the pins are the view's digests, or two strings cross.
abbrev pub MeansPins : {D : Type 0} → HashFunction → (D → List ℕ) → Grafting → (n floor : ℕ) → KeptChunks D → (ℕ → Option D)
    → List ℕ → Type 0
MeansPins h bytes_of g n floor t below root =
    (s : Snapshot) → IsSnapshot s → grafted_root_of h g s ≡ root →
    (n ≡ length s.operations) × (map bytes_of t.pinned ≡ chunk_pins h g s t.pruned)
    ⊎ Cross h (told_strings h g (kept_texts bytes_of g.shape t) (low_texts h bytes_of g.shape below) n
    (aligned g.shape n floor (height g))) (snapshot_strings h g s)

-- Where what both keep is a snapshot's, the root is too.
abbrev pub IsRootOfTrue : {D : Type 0} → HashFunction → (D → List ℕ) → Grafting → (n floor : ℕ) → (ℕ → Option D) → List ℕ → Type 0
IsRootOfTrue h bytes_of g n floor had root =
    (s : Snapshot) → IsSnapshot s → n ≡ length s.operations → floor ≡ s.floor
    → AnswersAreTrue bytes_of g.shape n (view_node h g s) had → root ≡ grafted_root_of h g s
