-- Proof stores: what is kept of an accepted range proof, and the proofs that it gives.
use Rattle.std.specs.Prelude.{◌≡◌, ℕ, ◌+◌, ◌<◌, ◌≤◌, List, [], ◌∷◌, ◌++◌, length, map, Bool, ◌&&◌, if◌then◌else◌, leb, ltb, eqb, Option, Some, None}
use Rattle.std.specs.List.{list_any}
use Rattle.storage_codec.specs.Digests.{HashFunction, IsSized}
use Rattle.storage_merkle.specs.declared.merkle.error.Error.{Error}
use Rattle.storage_merkle.specs.declared.merkle.error.Error.TheVariants.{Empty, RangeOutOfBounds, ElementPruned, DuplicateLocation, UnsortedLocation, CompressedDigest}
use Rattle.storage_merkle.specs.Shape.{Shape, Laws, max_leaves}
use Rattle.storage_merkle.specs.Calc.{Site, front, back, node, Calc, given, Values}
use Rattle.storage_merkle.specs.declared.merkle.bagging.Bagging.{Bagging}
use Rattle.storage_merkle.specs.Nodes.{IsNode}
use Rattle.storage_merkle.specs.Trees.{Layout, Content, Peak, ungrafted, peaks_of, folded, unfolded, bag, tree_node, tree_root}
use Rattle.storage_merkle.specs.RangeProofs.{Proof, apart, leading, not_leading, up_to, trailing, one_for, position_of, by_position, sites, check_values, check_strings, fold_digest, own_digest, own_proof, StandAt, SameChunks, IsAccepted, IsOwn, AreDigests}
use Rattle.storage_merkle.specs.Plans.{refusal}
use Rattle.storage_merkle.specs.Multi.{Claim, locations, Stand, tree_digest, needed_sites, own_multi_proof, IsMultiAccepted}
use Rattle.storage_merkle.specs.Extracted.{nodes_in, entries, digest_at, HoldsOfEach}

-- what is kept: the counts, the bagging and the range of the source, its folds where it has them, and digests with their
-- positions, which ascend
pub record Store : Type 0 where
  pub leaves : ℕ
  pub inactive : ℕ
  pub bagging : Bagging
  pub start : ℕ
  pub past : ℕ
  pub front_fold : List ℕ
  pub back_fold : List ℕ
  pub kept : List (ℕ × List ℕ)

-- the first entry at a position
abbrev pub entry_at : {D : Type 0} → ℕ → List (ℕ × D) → Option D
entry_at p [] = None
entry_at p (e ∷ es) = if eqb e.0 p then Some e.1 else entry_at p es

abbrev pub or_else : List ℕ → Option (List ℕ) → List ℕ
or_else d None = d
or_else d (Some x) = x

-- the nodes kept of a check of the range from low to high - 1: those read or computed, and each peak apart that no fold holds
abbrev pub kept_sites : Layout → Bagging → ℕ → ℕ → ℕ → ℕ → List Site
kept_sites T b n i low high = by_position T (nodes_in (apart low high)
    (not_leading low (folded b i (peaks_of T n)) ++ up_to high (unfolded b i (peaks_of T n))))

-- ---- range proofs

abbrev pub peak_given : Peak → Calc
peak_given p = given (node p.first p.height)

module _ (h : HashFunction) (T : Layout) (store : Store) where
  -- what the store has at a site
  abbrev pub stored_at : Site → List ℕ
  stored_at front = store.front_fold
  stored_at back = store.back_fold
  stored_at (node a k) = or_else (h []) (entry_at (T.shape.position a k) store.kept)

  abbrev pub store_values : Values
  store_values = record { digest = stored_at; element = λ j. []; chunk = λ a. [] }

  abbrev pub fore : List Peak
  fore = folded store.bagging store.inactive (peaks_of T store.leaves)

  abbrev pub aft : List Peak
  aft = unfolded store.bagging store.inactive (peaks_of T store.leaves)

  -- the digest at a site of a proof of the range from low to high - 1: the folds are extended by kept peaks
  abbrev pub store_digest : ℕ → ℕ → Site → List ℕ
  store_digest low high front = fold_digest h store_values
      (bag (one_for (given front) (leading store.start fore) ++ map peak_given (leading low (not_leading store.start fore))) [])
  store_digest low high back = fold_digest h store_values
      (bag [] (map peak_given (up_to store.past (trailing high aft)) ++ one_for (given back) (trailing store.past aft)))
  store_digest low high (node a k) = stored_at (node a k)

  abbrev pub store_proof : ℕ → ℕ → Proof
  store_proof low high = record {
    leaves = store.leaves;
    inactive = store.inactive;
    digests = map (store_digest low high) (sites T low high store.bagging store.leaves store.inactive);
  }

-- the first of two refusals
abbrev pub first_of : {A : Type 0} → Option A → Option A → Option A
first_of None r = r
first_of (Some q) r = Some q

-- why a store gives no proof of the range from low to high - 1: as for a plan, then the first location outside the source's range
abbrev pub range_refusal : (F : Type 0) → Shape → Store → ℕ → ℕ → Option (Error F)
range_refusal F S store low high =
    first_of (refusal F store.leaves low high)
    (if leb store.start low && ltb low store.past
    then (if leb high store.past then None else Some (ElementPruned (S.position store.past 0)))
    else Some (ElementPruned (S.position low 0)))

-- ---- multi proofs

-- the first location, in list order, that is below the one before it, equals it, or is none of n leaves; each must be at least
-- `first`, which is one more than the one before
abbrev pub location_refusal : (F : Type 0) → ℕ → ℕ → List ℕ → Option (Error F)
location_refusal F first n [] = None
location_refusal F first n (l ∷ ls) =
    if ltb (l + 1) first then Some (UnsortedLocation l)
    else (if eqb (l + 1) first then Some (DuplicateLocation l)
    else (if leb n l then Some (RangeOutOfBounds l)
    else location_refusal F (l + 1) n ls))

-- the positions of the peaks inside the fold past the source's range, ascending
abbrev pub suffix_positions : Shape → Store → List ℕ
suffix_positions S store = map (position_of (ungrafted S)) (by_position (ungrafted S) (map (λ p. node p.first p.height)
    (trailing store.past (unfolded store.bagging store.inactive (peaks_of (ungrafted S) store.leaves)))))

abbrev pub is_among : ℕ → List ℕ → Bool
is_among p qs = list_any (λ q. eqb q p) qs

abbrev pub needed_positions : Shape → List ℕ → ℕ → List ℕ
needed_positions S ls n = map (position_of (ungrafted S)) (needed_sites (ungrafted S) ls n)

-- the digest at a position: the store's, else that of the first of the given peaks there
abbrev pub found_at : Store → List (ℕ × List ℕ) → ℕ → Option (List ℕ)
found_at store peaks p = first_of (entry_at p store.kept) (entry_at p peaks)

-- a refusal where there is no digest, else the later ones
abbrev pub unless_there : {A : Type 0} → Option (List ℕ) → A → Option A → Option A
unless_there None e later = Some e
unless_there (Some d) e later = later

-- the first position with no digest: of a folded peak, or pruned
abbrev pub needed_refusal : (F : Type 0) → Store → List (ℕ × List ℕ) → List ℕ → List ℕ → Option (Error F)
needed_refusal F store peaks suffix [] = None
needed_refusal F store peaks suffix (p ∷ ps) = unless_there (found_at store peaks p)
    (if is_among p suffix then CompressedDigest p else ElementPruned p) (needed_refusal F store peaks suffix ps)

-- why a store gives no proof of some locations, with the digests of some peaks
abbrev pub multi_refusal : (F : Type 0) → Shape → Store → List (ℕ × List ℕ) → List ℕ → Option (Error F)
multi_refusal F S store peaks [] = Some Empty
multi_refusal F S store peaks (l ∷ ls) = first_of (location_refusal F 0 store.leaves (l ∷ ls))
    (needed_refusal F store peaks (suffix_positions S store) (needed_positions S (l ∷ ls) store.leaves))

abbrev pub store_multi_proof : Shape → Store → List (ℕ × List ℕ) → List ℕ → Proof
store_multi_proof S store peaks ls = record {
  leaves = store.leaves;
  inactive = store.inactive;
  digests = map (λ p. or_else [] (found_at store peaks p)) (needed_positions S ls store.leaves);
}

-- ---- what a store stands for

-- the counts, the folds and the digests of the store are a tree's
pub record IsStoreOf (h : HashFunction) (T : Layout) (store : Store) (content : Content) (inactive : ℕ) : Type 0 where
  pub leaves_are : store.leaves ≡ length content.elements
  pub inactive_are : store.inactive ≡ inactive
  pub front_is : 0 < length (leading store.start (fore h T store))
      → store.front_fold ≡ own_digest h T store.bagging content store.leaves store.inactive store.start store.past front
  pub back_is : 0 < length (trailing store.past (aft h T store))
      → store.back_fold ≡ own_digest h T store.bagging content store.leaves store.inactive store.start store.past back
  pub kept_are : store.kept ≡ entries T (tree_digest h T content)
      (kept_sites T store.bagging store.leaves store.inactive store.start store.past)

-- the store of an accepted proof
abbrev pub store_of : HashFunction → Layout → Bagging → Proof → ℕ → Content → Store
store_of h T b proof start claim = record {
  leaves = proof.leaves;
  inactive = proof.inactive;
  bagging = b;
  start = start;
  past = start + length claim.elements;
  front_fold = (check_values h T b proof start claim).digest front;
  back_fold = (check_values h T b proof start claim).digest back;
  kept = entries T (digest_at h (check_values h T b proof start claim) T (apart start (start + length claim.elements)))
      (kept_sites T b proof.leaves proof.inactive start (start + length claim.elements));
}

-- the store is that of an accepted proof, and one of each tree with that root, or a string of the check and a different one of the
-- tree have one digest; of each tree whose own proof it is, it is one
pub record IsMadeOf (d : ℕ) (h : HashFunction) (T : Layout) (b : Bagging) (proof : Proof) (start : ℕ)
    (claim : Content) (root : List ℕ) (store : Store) : Type 0 where
  pub accepted : IsAccepted h T b proof start claim root
  pub all : store ≡ store_of h T b proof start claim
  pub of_trees : HoldsOfEach d h T b proof.leaves start claim (check_strings h T b proof start claim) root
      (λ U content inactive. IsStoreOf h U store content inactive)
  pub of_own : (content : Content) (inactive : ℕ) → IsOwn h T b proof start claim content inactive
      → IsStoreOf h T store content inactive

-- given digests that are a tree's, where they stand at the place of one of its nodes
abbrev pub AreTrueAt : HashFunction → Layout → Content → List (ℕ × List ℕ) → Type 0
AreTrueAt h T content peaks =
    (p a k : ℕ) (x : List ℕ) → IsNode T.shape p a k → entry_at p peaks ≡ Some x → x ≡ tree_node h T content a k

-- What a store of a tree gives of a range is the tree's own proof.
abbrev pub StoresGiveOwnProofs : Type 0 → Type 0
StoresGiveOwnProofs F =
    (h : HashFunction) (T : Layout) → Laws T.shape →
    (store : Store) (content : Content) (inactive : ℕ) → IsStoreOf h T store content inactive →
    (low high : ℕ) → range_refusal F T.shape store low high ≡ None →
    store_proof h T store low high ≡ own_proof h T store.bagging content inactive low high

-- What a store of a tree gives of some locations, with peaks that are the tree's, is the tree's own proof.
abbrev pub StoresGiveOwnMultiProofs : Type 0 → Type 0
StoresGiveOwnMultiProofs F =
    (h : HashFunction) (T : Layout) → Laws T.shape →
    (store : Store) (content : Content) (inactive : ℕ) → IsStoreOf h T store content inactive →
    (peaks : List (ℕ × List ℕ)) → AreTrueAt h T content peaks →
    (ls : List ℕ) → multi_refusal F T.shape store peaks ls ≡ None →
    store_multi_proof T.shape store peaks ls ≡ own_multi_proof h T content inactive ls

-- A store made from an accepted proof is one of each tree with that root, or a string of the check and a different one of the
-- tree have one digest.
abbrev pub StoresOfAcceptedProofsAreTrue : Type 0
StoresOfAcceptedProofsAreTrue =
    (d : ℕ) (h : HashFunction) (T : Layout) (b : Bagging) (proof : Proof) (start : ℕ) (claim : Content)
    (root : List ℕ) →
    IsSized d h → Laws T.shape → AreDigests d proof.digests → IsAccepted h T b proof start claim root →
    HoldsOfEach d h T b proof.leaves start claim (check_strings h T b proof start claim) root
    (λ U content inactive. IsStoreOf h U (store_of h T b proof start claim) content inactive)

-- A store is one of a tree. What it gives of a range is the tree's own proof, which is accepted for the elements and chunks that
-- stand there; what it gives of some locations, with peaks that are the tree's, is accepted for claims that stand in the tree.
pub record GivesAccepted (F : Type 0) (h : HashFunction) (T : Layout) (store : Store) (content : Content)
    (inactive : ℕ) : Type 0 where
  pub of_tree : IsStoreOf h T store content inactive
  pub own : (low high : ℕ) → range_refusal F T.shape store low high ≡ None
      → store_proof h T store low high ≡ own_proof h T store.bagging content inactive low high
  pub ranges : (low : ℕ) (claim : Content) → StandAt content.elements low claim.elements
      → SameChunks T (length content.elements) low (low + length claim.elements) claim content
      → range_refusal F T.shape store low (low + length claim.elements) ≡ None
      → IsAccepted h T store.bagging (store_proof h T store low (low + length claim.elements)) low claim
      (tree_root h T store.bagging content inactive)
  pub multi : (peaks : List (ℕ × List ℕ)) → AreTrueAt h T content peaks
      → (claims : List Claim) → Stand content.elements claims
      → multi_refusal F T.shape store peaks (locations claims) ≡ None
      → IsMultiAccepted h T store.bagging (store_multi_proof T.shape store peaks (locations claims)) claims
      content.chunk (tree_root h T store.bagging content inactive)

-- A store made from a tree's own proof of some elements is one of that tree, and what it gives is accepted against the tree's root.
abbrev pub StoresOfOwnProofsGiveAccepted : Type 0 → Type 0
StoresOfOwnProofsGiveAccepted F =
    (h : HashFunction) (T : Layout) → Laws T.shape →
    (b : Bagging) (proof : Proof) (start : ℕ) (claim content : Content) (inactive : ℕ) →
    length content.elements ≤ max_leaves → inactive ≤ length (T.shape.peaks (length content.elements))
    → 0 < length claim.elements →
    IsOwn h T b proof start claim content inactive →
    GivesAccepted F h T (store_of h T b proof start claim) content inactive
