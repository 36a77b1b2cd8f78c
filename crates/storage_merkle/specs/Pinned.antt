-- The check of a range proof with the digests of the peaks over its start.
use Rattle.std.specs.Prelude.{◌≡◌, ℕ, ◌+◌, ◌<◌, ◌≤◌, ◌^◌, ◌⊎◌, List, [], ◌∷◌, ◌++◌, length, map, Bool, true, false, if◌then◌else◌, ◌&&◌, ◌||◌, leb, eqb}
use Rattle.storage_codec.specs.Digests.{HashFunction, IsSized, Cross}
use Rattle.storage_merkle.specs.Shape.{Shape, Laws, max_leaves}
use Rattle.storage_merkle.specs.Calc.{Site, front, back, node, Values, eval, strings}
use Rattle.storage_merkle.specs.declared.merkle.bagging.Bagging.{Bagging}
use Rattle.storage_merkle.specs.Trees.{Layout, Content, content_of, Peak, listed, ungrafted, part, node_calc, peaks_of, folded, bag, strings_bag, tree_root, tree_strings}
use Rattle.storage_merkle.specs.RangeProofs.{Proof, leading, look_up, range_sites, check_values, check_strings, fold_digest, IsAccepted, IsOwn, AreDigests}
use Rattle.storage_merkle.specs.Multi.{tree_digest}

-- whether one of some peaks is the node of height k with first leaf a
abbrev pub stands_in : List Peak → ℕ → ℕ → Bool
stands_in [] a k = false
stands_in (p ∷ ps) a k = (eqb p.first a && eqb p.height k) || stands_in ps a k

abbrev pub peak_sites : List Peak → List Site
peak_sites [] = []
peak_sites (p ∷ ps) = node p.first p.height ∷ peak_sites ps

-- whether a digest of a proof is of leaves before the start
abbrev pub is_earlier : ℕ → Site → Bool
is_earlier start front = true
is_earlier start back = false
is_earlier start (node a k) = leb (a + 2 ^ k) start

-- each digest of leaves before the start is the recomputed one
abbrev pub Match : ℕ → (Site → List ℕ) → (Site → List ℕ) → List Site → Type 0
Match start digest recomputed [] = Unit {0}
Match start digest recomputed (s ∷ ss) =
    (is_earlier start s ≡ true → digest s ≡ recomputed s) × Match start digest recomputed ss

module _ (h : HashFunction) (T : Layout) (b : Bagging) (proof : Proof) (start : ℕ) (claim : Content)
    (pinned : List (List ℕ)) where
  -- the peaks over the leaves before the start, whose digests are pinned
  abbrev pub pinned_sites : List Site
  pinned_sites = peak_sites (peaks_of T start)

  -- these are given, and no element is hashed
  abbrev pub pinned_cut : ℕ → ℕ → Bool
  pinned_cut a k = eqb k 0 || stands_in (peaks_of T start) a k

  abbrev pub pinned_values : Values
  pinned_values = record { digest = look_up (h []) pinned_sites pinned; element = λ j. []; chunk = claim.chunk }

  abbrev pub leading_folded : List Peak
  leading_folded = leading start (folded b proof.inactive (peaks_of T proof.leaves))

  -- the digest there, from the pinned ones by node hashing
  abbrev pub recomputed : Site → List ℕ
  recomputed front = fold_digest h pinned_values (bag (map (part T pinned_cut) leading_folded) [])
  recomputed back = h []
  recomputed (node a k) = eval h pinned_values (node_calc T pinned_cut k a)

  abbrev pub recomputed_strings : Site → List (List ℕ)
  recomputed_strings front = strings_bag h pinned_values (bag (map (part T pinned_cut) leading_folded) [])
  recomputed_strings back = []
  recomputed_strings (node a k) = strings h pinned_values (node_calc T pinned_cut k a)

  abbrev pub match_strings : List Site → List (List ℕ)
  match_strings [] = []
  match_strings (s ∷ ss) = (if is_earlier start s then recomputed_strings s else []) ++ match_strings ss

  -- each string given to the digest function by the check
  abbrev pub pinned_strings : List (List ℕ)
  pinned_strings = check_strings h T b proof start claim ++ match_strings (range_sites h T b proof start claim)

  -- where the check says yes
  pub record IsPinnedAccepted (root : List ℕ) : Type 0 where
    pub accepted : IsAccepted h T b proof start claim root
    pub count : length pinned ≡ length pinned_sites
    pub same : Match start (check_values h T b proof start claim).digest recomputed
        (range_sites h T b proof start claim)

  -- the proof is the tree's own, and the pinned digests are those of the peaks over the start
  pub record IsPinnedOwn (content : Content) (inactive : ℕ) : Type 0 where
    pub own : IsOwn h T b proof start claim content inactive
    pub pinned_are : pinned ≡ map (tree_digest h T content) pinned_sites

-- Of each list with that root, the proof is the list's own, what it claims stands there and the pinned digests are those of the
-- peaks over the start, or a string of the check and a different one of the list's tree have one digest.
abbrev pub IsPinnedProved : HashFunction → Shape → Bagging → Proof → ℕ → List (List ℕ) → List (List ℕ)
    → List ℕ → Type 0
IsPinnedProved h S b proof start elements pinned root =
    (list : List (List ℕ)) (inactive : ℕ) → length list ≤ max_leaves → inactive ≤ length (S.peaks (length list)) →
    tree_root h (ungrafted S) b (listed list) inactive ≡ root →
    IsPinnedOwn h (ungrafted S) b proof start (listed elements) pinned (listed list) inactive
    ⊎ Cross h (pinned_strings h (ungrafted S) b proof start (listed elements) pinned)
    (tree_strings h (ungrafted S) b (listed list) inactive)

-- Pinned digests that are accepted are those of the list's peaks over the start, and the proof is the list's own, or a string of
-- the check and a different one of the list's tree have one digest.
abbrev pub PinnedDigestsAreSound : Type 0
PinnedDigestsAreSound =
    (d : ℕ) (h : HashFunction) → IsSized d h → (S : Shape) → Laws S →
    (b : Bagging) (proof : Proof) (start : ℕ) (elements pinned : List (List ℕ)) → AreDigests d proof.digests
    → AreDigests d pinned →
    (list : List (List ℕ)) (inactive : ℕ) → length list ≤ max_leaves → inactive ≤ length (S.peaks (length list)) →
    IsPinnedAccepted h (ungrafted S) b proof start (listed elements) pinned
    (tree_root h (ungrafted S) b (listed list) inactive) →
    IsPinnedOwn h (ungrafted S) b proof start (listed elements) pinned (listed list) inactive
    ⊎ Cross h (pinned_strings h (ungrafted S) b proof start (listed elements) pinned)
    (tree_strings h (ungrafted S) b (listed list) inactive)

-- A tree's own proof of some elements that stand in it, with the digests of the tree's own peaks over the start, is accepted against its
-- root.
abbrev pub OwnPinnedProofsAreAccepted : Type 0
OwnPinnedProofsAreAccepted =
    (h : HashFunction) (T : Layout) → Laws T.shape →
    (b : Bagging) (proof : Proof) (start : ℕ) (elements pinned : List (List ℕ)) (content : Content) (inactive : ℕ) →
    length content.elements ≤ max_leaves → inactive ≤ length (T.shape.peaks (length content.elements))
    → 0 < length elements →
    IsPinnedOwn h T b proof start (content_of elements content.chunk) pinned content inactive →
    IsPinnedAccepted h T b proof start (content_of elements content.chunk) pinned (tree_root h T b content inactive)
