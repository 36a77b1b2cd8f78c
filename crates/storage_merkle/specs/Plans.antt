-- Which nodes are asked for, the first that is not there, and the first whose read may fail.
use Rattle.std.specs.Prelude.{◌≡◌, ℕ, ◌+◌, ◌-◌, ◌%◌, ◌<◌, ◌≤◌, ◌^◌, ◌↔◌, true, List, [], ◌∷◌, length, map, ◌⊎◌, Option, Some, None, leb, ltb, if◌then◌else◌}
use Rattle.std.specs.List.{Contains}
use Rattle.storage_codec.specs.Digests.{HashFunction}
use Rattle.storage_merkle.specs.declared.merkle.error.Error.{Error}
use Rattle.storage_merkle.specs.declared.merkle.error.Error.TheVariants.{Empty, RangeOutOfBounds, LocationOverflow}
use Rattle.storage_merkle.specs.Shape.{Shape, Laws, size, Inside, AreAligned, max_leaves}
use Rattle.storage_merkle.specs.Calc.{Site}
use Rattle.storage_merkle.specs.Nodes.{IsNode}
use Rattle.storage_merkle.specs.declared.merkle.bagging.Bagging.{Bagging}
use Rattle.storage_merkle.specs.Trees.{Layout, Content, ungrafted, peaks_of, folded, unfolded, tree_node}
use Rattle.storage_merkle.specs.RangeProofs.{Proof, apart, sites_in, position_of, by_position, sites, own_proof}
use Rattle.storage_merkle.specs.PlanParts.{site_digest}
use Rattle.storage_merkle.specs.Siblings.{sibling_sites}

-- p is the first of the positions for which the answer is none
abbrev pub IsFirstAbsent : {D : Type 0} → (ℕ → Option D → Type 0) → List ℕ → ℕ → Type 0
IsFirstAbsent answers [] p = ⊥
IsFirstAbsent {D} answers (q ∷ qs) p =
    (answers q None × (p ≡ q)) ⊎ ((d : D) × answers q (Some d) × IsFirstAbsent answers qs p)

-- a fault with this code is at the first of the positions that is absent or may fail: each one before it has a digest
abbrev pub IsFirstFault : {D : Type 0} → (ℕ → Option D → Type 0) → (ℕ → ℕ → Type 0) → List ℕ → ℕ → Type 0
IsFirstFault answers may_fail [] code = ⊥
IsFirstFault {D} answers may_fail (q ∷ qs) code =
    may_fail q code ⊎ ((d : D) × answers q (Some d) × IsFirstFault answers may_fail qs code)

-- a range of leaves, from start to before end, of a tree
pub record PlanOf : Type 0 where
  pub leaves : ℕ
  pub start : ℕ
  pub end : ℕ

-- why there is no plan of the leaves from start to before end of a tree of n leaves: the first reason that holds
abbrev pub refusal : (F : Type 0) → ℕ → ℕ → ℕ → Option (Error F)
refusal F n start end =
    if ltb max_leaves n then Some (LocationOverflow n)
    else (if leb end start then Some Empty
    else (if ltb max_leaves end then Some (LocationOverflow (end - 1))
    else (if ltb n end then Some (RangeOutOfBounds (end - 1))
    else None)))

-- the greatest nodes of the tree over n leaves that hold no leaf from low to high - 1, ascending by position
abbrev pub planned_sites : Layout → ℕ → ℕ → ℕ → List Site
planned_sites T n low high = by_position T (sites_in T (apart low high) (peaks_of T n))

-- their positions
abbrev pub planned : Shape → ℕ → ℕ → ℕ → List ℕ
planned S n low high = map (position_of (ungrafted S)) (planned_sites (ungrafted S) n low high)

-- what is answered for each of the positions is the digest of the node there of the tree over some content
abbrev pub AnswersAre : {D : Type 0} → (D → List ℕ) → (ℕ → Option D → Type 0) → List ℕ → HashFunction → Layout
    → Content → Type 0
AnswersAre {D} bytes_of answers positions h T content = (p a k : ℕ) (d : D) → Contains positions p → IsNode T.shape p a k
    → answers p (Some d) → bytes_of d ≡ tree_node h T content a k

-- a proof with so many inactive peaks is the own one of each tree of which the answers for the planned positions are
abbrev pub IsOwnOfEach : {D : Type 0} → (D → List ℕ) → (ℕ → Option D → Type 0) → HashFunction → Shape → Bagging → PlanOf
    → ℕ → Proof → Type 0
IsOwnOfEach bytes_of answers h S b plan inactive proof =
    (T : Layout) (content : Content) → T.shape ≡ S → length content.elements ≡ plan.leaves →
    AnswersAre bytes_of answers (planned S plan.leaves plan.start plan.end) h T content →
    proof ≡ own_proof h T b content inactive plan.start plan.end

-- what is answered for each of the positions is the digest that `digest_of` gives the node there, by its first leaf and height
abbrev pub AnswersAreOf : {D : Type 0} → (D → List ℕ) → (ℕ → Option D → Type 0) → List ℕ → Shape → (ℕ → ℕ → List ℕ)
    → Type 0
AnswersAreOf {D} bytes_of answers positions S digest_of = (p a k : ℕ) (d : D) → Contains positions p → IsNode S p a k
    → answers p (Some d) → bytes_of d ≡ digest_of a k

-- the proof of a plan with i inactive peaks whose digests are those that `digest_of` gives nodes, and folds of these
abbrev pub gathered_proof : HashFunction → Shape → Bagging → (ℕ → ℕ → List ℕ) → PlanOf → ℕ → Proof
gathered_proof h S b digest_of plan i = record {
  leaves = plan.leaves;
  inactive = i;
  digests = map (site_digest plan.start plan.end (folded b i (peaks_of (ungrafted S) plan.leaves))
      (unfolded b i (peaks_of (ungrafted S) plan.leaves)) h digest_of)
      (sites (ungrafted S) plan.start plan.end b plan.leaves i);
}

-- a proof is the one gathered from the answers for the planned positions, whatever digests they are
abbrev pub IsGathered : {D : Type 0} → (D → List ℕ) → (ℕ → Option D → Type 0) → HashFunction → Shape → Bagging → PlanOf → ℕ
    → Proof → Type 0
IsGathered bytes_of answers h S b plan inactive proof =
    (digest_of : ℕ → ℕ → List ℕ) →
    AnswersAreOf bytes_of answers (planned S plan.leaves plan.start plan.end) S digest_of →
    proof ≡ gathered_proof h S b digest_of plan inactive

-- a plan's positions are those that are planned, and its siblings' those of the siblings
pub record ArePlanned (S : Shape) (leaves start end : ℕ) (positions siblings : List ℕ) : Type 0 where
  pub some : start < end
  pub within : end ≤ leaves
  pub few : leaves ≤ max_leaves
  pub positions_are : positions ≡ planned S leaves start end
  pub siblings_are : siblings ≡ map (position_of (ungrafted S)) (sibling_sites (ungrafted S) leaves start end)

-- the node of height k with first leaf a is in the tree over n leaves
pub record InTree (S : Shape) (n a k : ℕ) : Type 0 where
  pub aligned : a % 2 ^ k ≡ 0
  pub inside : S.position a k < size S n

-- the peaks over r leaves from the leaf s on are the last ones over n leaves
pub record ArePeaks (S : Shape) (n s r : ℕ) : Type 0 where
  pub sum : s + r ≡ n
  pub aligned : AreAligned (S.peaks r) s
  pub inside : (a k : ℕ) → Inside (S.peaks r) s a k → Inside (S.peaks n) 0 a k

-- the node of height k with first leaf a is one of the greatest of the tree over n leaves that hold no leaf from low to
-- high - 1: no other such node covers it
pub record IsGreatestApart (S : Shape) (n low high a k : ℕ) : Type 0 where
  pub tree : InTree S n a k
  pub outside : apart low high a k ≡ true
  pub greatest : (b j : ℕ) → InTree S n b j → apart low high b j ≡ true → b ≤ a → a + 2 ^ k ≤ b + 2 ^ j
      → (b ≡ a) × (j ≡ k)

-- The planned positions are those of the greatest nodes that hold no leaf of the range.
abbrev pub GreatestNodesArePlanned : Type 0
GreatestNodesArePlanned =
    (S : Shape) → Laws S → (n low high p : ℕ) →
    (Contains (planned S n low high) p ↔ ((a : ℕ) × (k : ℕ) × IsNode S p a k × IsGreatestApart S n low high a k))
