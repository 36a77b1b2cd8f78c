-- Trees over lists of elements: peaks, nodes, bagging and roots.
use Rattle.std.specs.Prelude.{ℕ, zero, suc, ◌+◌, ◌^◌, List, [], ◌∷◌, ◌++◌, length, map, take, drop, get_or, Bool, false, if◌then◌else◌, Option, Some, None}
use Rattle.storage_codec.specs.Digests.{HashFunction}
use Rattle.storage_merkle.specs.Shape.{Shape}
use Rattle.storage_merkle.specs.Calc.{node, Calc, given, leaf, pair, graft, be8, Values, eval, strings}
use Rattle.storage_merkle.specs.declared.merkle.bagging.Bagging.{Bagging}
use Rattle.storage_merkle.specs.declared.merkle.bagging.Bagging.TheVariants.{ForwardFold, BackwardFold}

-- how trees are laid out: a family's shape, whose positions leaves are hashed with and digests are sorted by; and for each node, by
-- first leaf and height, the number that it is hashed with, if it isn't a leaf, and whether it has a chunk grafted
pub record Layout : Type 0 where
  pub shape : Shape
  pub position : ℕ → ℕ → ℕ
  pub grafted : ℕ → ℕ → Bool

-- each node is hashed with its position, and has no chunk grafted
abbrev pub ungrafted : Shape → Layout
ungrafted S = record { shape = S; position = S.position; grafted = λ a k. false }

-- what a tree is over: its elements, and the chunk from a leaf on
pub record Content : Type 0 where
  pub elements : List (List ℕ)
  pub chunk : ℕ → List ℕ

abbrev pub content_of : List (List ℕ) → (ℕ → List ℕ) → Content
content_of list chunk = record { elements = list; chunk = chunk }

-- a list of elements, with no chunks
abbrev pub listed : List (List ℕ) → Content
listed list = record { elements = list; chunk = λ a. [] }

-- ---- nodes

-- a node from its halves: their digests after its number, with the chunk grafted where the layout says so
abbrev pub join_calc : Layout → ℕ → ℕ → Calc → Calc → Calc
join_calc T a k l r = if T.grafted a k then graft a (T.position a k) l r
    else pair (be8 (T.position a k)) l r

-- the node of height k over the leaves from a on: its digest is given where `cut` names the node, else calculated
abbrev pub node_calc : Layout → (ℕ → ℕ → Bool) → ℕ → ℕ → Calc
node_calc T cut zero a = if cut a zero then given (node a zero) else leaf (be8 (T.shape.position a zero)) a
node_calc T cut (suc k) a = if cut a (suc k) then given (node a (suc k))
    else join_calc T a (suc k) (node_calc T cut k a) (node_calc T cut k (a + 2 ^ k))

-- nothing is given
abbrev pub never : ℕ → ℕ → Bool
never a k = false

-- ---- peaks

pub record Peak : Type 0 where
  pub first : ℕ
  pub height : ℕ

-- peaks of these heights side by side, from a leaf on
abbrev pub places : ℕ → List ℕ → List Peak
places a [] = []
places a (k ∷ ks) = (record { first = a; height = k }) ∷ places (a + 2 ^ k) ks

-- the peaks over n leaves
abbrev pub peaks_of : Layout → ℕ → List Peak
peaks_of T n = places 0 (T.shape.peaks n)

-- a peak with the nodes that `cut` names given, and a peak with nothing given
abbrev pub part : Layout → (ℕ → ℕ → Bool) → Peak → Calc
part T cut p = node_calc T cut p.height p.first

abbrev pub whole_peak : Layout → Peak → Calc
whole_peak T p = part T never p

-- ---- bagging

abbrev pub fold_forward : Calc → List Calc → Calc
fold_forward x [] = x
fold_forward x (y ∷ ys) = fold_forward (pair [] x y) ys

abbrev pub fold_backward : Calc → List Calc → Calc
fold_backward x [] = x
fold_backward x (y ∷ ys) = pair [] x (fold_backward y ys)

-- the first list is folded from the left into one item, and then that item and the second list from the right
abbrev pub bag : List Calc → List Calc → Option Calc
bag [] [] = None
bag [] (y ∷ ys) = Some (fold_backward y ys)
bag (x ∷ xs) ys = Some (fold_backward (fold_forward x xs) ys)

-- of peaks of which i are inactive, those that are folded from the left, and those that are folded from the right
abbrev pub folded : Bagging → ℕ → List Peak → List Peak
folded ForwardFold i ps = ps
folded BackwardFold i ps = take i ps

abbrev pub unfolded : Bagging → ℕ → List Peak → List Peak
unfolded ForwardFold i ps = []
unfolded BackwardFold i ps = drop i ps

-- the whole tree over n leaves
abbrev pub tree_bag : Layout → Bagging → ℕ → ℕ → Option Calc
tree_bag T b n i = bag (map (whole_peak T) (folded b i (peaks_of T n))) (map (whole_peak T) (unfolded b i (peaks_of T n)))

-- ---- roots

abbrev pub bagging_byte : Bagging → ℕ
bagging_byte ForwardFold = 0
bagging_byte BackwardFold = 1

-- what stands before the bagged peaks: family, bagging, leaves, inactive peaks
abbrev pub root_head : Layout → Bagging → ℕ → ℕ → List ℕ
root_head T b n i = T.shape.byte ∷ bagging_byte b ∷ (be8 n ++ be8 i)

-- the bagged peaks: nothing in the empty tree
abbrev pub eval_bag : HashFunction → Values → Option Calc → List ℕ
eval_bag h v None = []
eval_bag h v (Some c) = eval h v c

abbrev pub strings_bag : HashFunction → Values → Option Calc → List (List ℕ)
strings_bag h v None = []
strings_bag h v (Some c) = strings h v c

-- the string that a root is the digest of
abbrev pub root_string : HashFunction → Values → Layout → Bagging → ℕ → ℕ → Option Calc → List ℕ
root_string h v T b n i t = root_head T b n i ++ eval_bag h v t

-- the root of the empty tree
abbrev pub empty_root : HashFunction → Layout → Bagging → List ℕ
empty_root h T b = h (root_head T b 0 0 ++ [])

-- what stands in the tree over some content (no digest of it is given)
abbrev pub plain : HashFunction → Content → Values
plain h content = record { digest = λ s. h []; element = λ j. get_or content.elements j []; chunk = content.chunk }

-- the digest of a tree's node
abbrev pub tree_node : HashFunction → Layout → Content → ℕ → ℕ → List ℕ
tree_node h T content a k = eval h (plain h content) (node_calc T never k a)

abbrev pub tree_string : HashFunction → Layout → Bagging → Content → ℕ → List ℕ
tree_string h T b content i = root_string h (plain h content) T b (length content.elements) i
    (tree_bag T b (length content.elements) i)

-- the root of the tree over some content, of whose peaks i are inactive
abbrev pub tree_root : HashFunction → Layout → Bagging → Content → ℕ → List ℕ
tree_root h T b content i = h (tree_string h T b content i)

-- each string given to the digest function there
abbrev pub tree_strings : HashFunction → Layout → Bagging → Content → ℕ → List (List ℕ)
tree_strings h T b content i = tree_string h T b content i
    ∷ strings_bag h (plain h content) (tree_bag T b (length content.elements) i)
