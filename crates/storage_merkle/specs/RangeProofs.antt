-- Range proofs: their digests in order, their check, and the proof that a tree itself has.
use Rattle.std.specs.Prelude.{◌≡◌, ℕ, ◌+◌, ◌-◌, ◌%◌, ◌<◌, ◌≤◌, ◌^◌, ◌⊎◌, List, [], ◌∷◌, ◌++◌, length, map, get_or, Bool, true, false, if◌then◌else◌, ◌&&◌, ◌||◌, leb, eqb, Option, Some, None}
use Rattle.storage_codec.specs.Digests.{HashFunction}
use Rattle.storage_merkle.specs.Shape.{Inside, max_leaves}
use Rattle.storage_merkle.specs.Calc.{Site, front, back, node, Calc, given, leaf, pair, graft, Values, eval}
use Rattle.storage_merkle.specs.declared.merkle.bagging.Bagging.{Bagging}
use Rattle.storage_merkle.specs.Trees.{Layout, Content, Peak, folded, unfolded, peaks_of, part, whole_peak, bag, root_string, strings_bag, empty_root, plain, tree_node}

-- a range proof: the number of leaves, the number of inactive peaks, and digests
pub record Proof : Type 0 where
  pub leaves : ℕ
  pub inactive : ℕ
  pub digests : List (List ℕ)

-- ---- which digests a proof has: of the greatest nodes with no leaf of the range, and of folds of peaks

-- a node with no leaf from low to high - 1
abbrev pub apart : ℕ → ℕ → ℕ → ℕ → Bool
apart low high a k = leb (a + 2 ^ k) low || leb high a

-- the peaks in front that end at or before low, and the others
abbrev pub leading : ℕ → List Peak → List Peak
leading low [] = []
leading low (p ∷ ps) = if leb (p.first + 2 ^ p.height) low then p ∷ leading low ps else []

abbrev pub not_leading : ℕ → List Peak → List Peak
not_leading low [] = []
not_leading low (p ∷ ps) = if leb (p.first + 2 ^ p.height) low then not_leading low ps else p ∷ ps

-- the peaks up to the first one that begins at high or past it, and the others
abbrev pub up_to : ℕ → List Peak → List Peak
up_to high [] = []
up_to high (p ∷ ps) = if leb high p.first then [] else p ∷ up_to high ps

abbrev pub trailing : ℕ → List Peak → List Peak
trailing high [] = []
trailing high (p ∷ ps) = if leb high p.first then p ∷ ps else trailing high ps

-- the sites of a calculation's given digests, by their leaves
abbrev pub sites_of : Calc → List Site
sites_of (given s) = s ∷ []
sites_of (leaf p j) = []
sites_of (pair p l r) = sites_of l ++ sites_of r
sites_of (graft a p l r) = sites_of l ++ sites_of r

abbrev pub sites_in : Layout → (ℕ → ℕ → Bool) → List Peak → List Site
sites_in T cut [] = []
sites_in T cut (p ∷ ps) = sites_of (part T cut p) ++ sites_in T cut ps

-- one x for some peaks, none for none
abbrev pub one_for : {A : Type 0} → A → List Peak → List A
one_for x [] = []
one_for x (p ∷ ps) = x ∷ []

-- the position of a node; the folds have none
abbrev pub position_of : Layout → Site → ℕ
position_of T front = 0
position_of T back = 0
position_of T (node a k) = T.shape.position a k

abbrev pub place_in : Layout → Site → List Site → List Site
place_in T s [] = s ∷ []
place_in T s (t ∷ ts) = if leb (position_of T s) (position_of T t) then s ∷ t ∷ ts else t ∷ place_in T s ts

-- ascending by position
abbrev pub by_position : Layout → List Site → List Site
by_position T [] = []
by_position T (s ∷ ss) = place_in T s (by_position T ss)

module _ (T : Layout) (low high : ℕ) where
  -- the digests of a range proof in order, where the peaks xs are folded from the left and the peaks ys from the right:
  -- before the range, one fold of the xs and each of the ys; past it, each of the xs and one fold of the ys; and then
  -- the siblings inside the peaks that share a leaf with the range, by position
  abbrev pub sites_over : List Peak → List Peak → List Site
  sites_over xs ys =
      one_for front (leading low xs) ++ (sites_in T (apart low high) (leading low ys)
      ++ (sites_in T (apart low high) (trailing high (not_leading low xs)) ++ (one_for back (trailing high ys)
      ++ by_position T (sites_in T (apart low high) (up_to high (not_leading low xs))
      ++ sites_in T (apart low high) (up_to high (not_leading low ys))))))

  -- over n leaves, with i inactive peaks
  abbrev pub sites : Bagging → ℕ → ℕ → List Site
  sites b n i = sites_over (folded b i (peaks_of T n)) (unfolded b i (peaks_of T n))

-- ---- the check

-- the tree's own calculation, with the folds before and past the range and the nodes apart from it given
abbrev pub check_bag : Layout → ℕ → ℕ → Bagging → ℕ → ℕ → Option Calc
check_bag T low high b n i =
    let xs = folded b i (peaks_of T n) in
    let ys = unfolded b i (peaks_of T n) in
    bag (one_for (given front) (leading low xs) ++ map (part T (apart low high)) (not_leading low xs))
    (map (part T (apart low high)) (up_to high ys) ++ one_for (given back) (trailing high ys))

abbrev pub same_site : Site → Site → Bool
same_site front front = true
same_site back back = true
same_site (node a k) (node b m) = eqb a b && eqb k m
same_site _ _ = false

-- the digest that stands for a site in a list
abbrev pub look_up : List ℕ → List Site → List (List ℕ) → Site → List ℕ
look_up none [] ds s = none
look_up none (t ∷ ts) [] s = none
look_up none (t ∷ ts) (d ∷ ds) s = if same_site s t then d else look_up none ts ds s

module _ (h : HashFunction) (T : Layout) (b : Bagging) (proof : Proof) (start : ℕ) (claim : Content) where
  abbrev pub range_sites : List Site
  range_sites = sites T start (start + length claim.elements) b proof.leaves proof.inactive

  -- the proof's digests, the claimed elements from `start` on, the claimed chunks
  abbrev pub check_values : Values
  check_values = record {
    digest = look_up (h []) range_sites proof.digests;
    element = λ j. get_or claim.elements (j - start) [];
    chunk = claim.chunk;
  }

  abbrev pub check_string : List ℕ
  check_string = root_string h check_values T b proof.leaves proof.inactive
      (check_bag T start (start + length claim.elements) b proof.leaves proof.inactive)

  -- the root that the check recomputes
  abbrev pub recomputed_root : List ℕ
  recomputed_root = h check_string

  -- each string given to the digest function by the check
  abbrev pub check_strings : List (List ℕ)
  check_strings = check_string
      ∷ strings_bag h check_values (check_bag T start (start + length claim.elements) b proof.leaves proof.inactive)

  -- the counts of a proof fit together and to a range of some elements
  pub record CountsFit : Type 0 where
    pub few : proof.leaves ≤ max_leaves
    pub peaks : proof.inactive ≤ length (T.shape.peaks proof.leaves)
    pub some : 0 < length claim.elements
    pub within : start + length claim.elements ≤ proof.leaves
    pub count : length proof.digests ≡ length range_sites

  -- the proof of no elements of the empty tree
  pub record IsEmptyProof : Type 0 where
    pub none : claim.elements ≡ []
    pub no_leaves : proof.leaves ≡ 0
    pub no_inactive : proof.inactive ≡ 0
    pub no_start : start ≡ 0
    pub no_digests : proof.digests ≡ []

  -- where the check says yes
  abbrev pub IsAccepted : List ℕ → Type 0
  IsAccepted root = (CountsFit × (recomputed_root ≡ root)) ⊎ (IsEmptyProof × (empty_root h T b ≡ root))

-- ---- the tree's own proof

-- the digest of a fold
abbrev pub fold_digest : HashFunction → Values → Option Calc → List ℕ
fold_digest h v None = h []
fold_digest h v (Some c) = eval h v c

-- the digest that a tree over n leaves with i inactive peaks has at each site of a range
abbrev pub own_digest : HashFunction → Layout → Bagging → Content → ℕ → ℕ → ℕ → ℕ → Site → List ℕ
own_digest h T b content n i low high front = fold_digest h (plain h content)
    (bag (map (whole_peak T) (leading low (folded b i (peaks_of T n)))) [])
own_digest h T b content n i low high back = fold_digest h (plain h content)
    (bag [] (map (whole_peak T) (trailing high (unfolded b i (peaks_of T n)))))
own_digest h T b content n i low high (node a k) = tree_node h T content a k

-- the tree's own proof of the range from low to high - 1
abbrev pub own_proof : HashFunction → Layout → Bagging → Content → ℕ → ℕ → ℕ → Proof
own_proof h T b content i low high = record {
  leaves = length content.elements;
  inactive = i;
  digests = map (own_digest h T b content (length content.elements) i low high)
      (sites T low high b (length content.elements) i);
}

-- some elements stand in a list from `start` on
pub record StandAt (list : List (List ℕ)) (start : ℕ) (elements : List (List ℕ)) : Type 0 where
  pub within : start + length elements ≤ length list
  pub each : (j : ℕ) → j < length elements → get_or elements j [] ≡ get_or list (start + j) []

-- two contents have the same chunk over each grafted node that shares a leaf with the range
abbrev pub SameChunks : Layout → ℕ → ℕ → ℕ → Content → Content → Type 0
SameChunks T n low high c e = (a k : ℕ) → 1 ≤ k → T.grafted a k ≡ true → a % 2 ^ k ≡ 0 → Inside (T.shape.peaks n) 0 a k
    → apart low high a k ≡ false → c.chunk a ≡ e.chunk a

-- the proof is the tree's own, field for field, and what is claimed stands in the tree
pub record IsOwn (h : HashFunction) (T : Layout) (b : Bagging) (proof : Proof) (start : ℕ)
    (claim content : Content) (inactive : ℕ) : Type 0 where
  pub proof_is : proof ≡ own_proof h T b content inactive start (start + length claim.elements)
  pub elements_are : StandAt content.elements start claim.elements
  pub chunks_are : SameChunks T (length content.elements) start (start + length claim.elements) claim content

-- each digest has d bytes
abbrev pub AreDigests : ℕ → List (List ℕ) → Type 0
AreDigests d [] = Unit {0}
AreDigests d (x ∷ xs) = (length x ≡ d) × AreDigests d xs
