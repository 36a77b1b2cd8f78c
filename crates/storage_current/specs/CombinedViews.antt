-- Two trees that are read as one are a snapshot's grafted view.
use Rattle.std.specs.Prelude.{◌≡◌, ℕ, ◌+◌, ◌-◌, ◌*◌, ◌/◌, ◌%◌, ◌^◌, ◌<◌, ◌≤◌, ◌⊎◌, List, [], length, get_or, min, Option, Some, IsSome, option_map}
use Rattle.std.specs.List.{Contains}
use Rattle.storage_codec.specs.Digests.{HashFunction}
use Rattle.storage_merkle.specs.Shape.{Shape, size}
use Rattle.storage_merkle.specs.Nodes.{IsNode}
use Rattle.storage_merkle.specs.Plans.{planned}
use Rattle.storage_merkle.specs.Trees.{ungrafted, listed, tree_node}
use Rattle.storage_merkle.specs.Hashing.{node_over}
use Rattle.storage_bitmap.specs.Chunks.{Retained, IsRest}
use Rattle.storage_current.specs.BuiltProofs.{AreAnswered}
use Rattle.storage_current.specs.Combined.{over_chunks, joined}
use Rattle.storage_current.specs.GraftedTrees.{IsCoverable, IsKeptIn, regrafted}
use Rattle.storage_current.specs.Served.{AreServedOf, held_at, plan_over}
use Rattle.storage_current.specs.Snapshots.{Grafting, IsGrafting, height, graftable, Snapshot, IsSnapshot, ops_root_of, view_node}

-- the digest of each node of the tree over n leaves is answered
abbrev pub AreAnswersOf : {D : Type 0} → (D → List ℕ) → Shape → ℕ → (ℕ → ℕ → List ℕ) → (ℕ → Option D) → Type 0
AreAnswersOf bytes_of S n node answers =
    (p a k : ℕ) → p < size S n → IsNode S p a k → option_map bytes_of (answers p) ≡ Some (node a k)

-- what is answered for a node of the tree over n leaves is its digest
abbrev pub AnswersAreTrue : {D : Type 0} → (D → List ℕ) → Shape → ℕ → (ℕ → ℕ → List ℕ) → (ℕ → Option D) → Type 0
AnswersAreTrue {D} bytes_of S n node answers =
    (p a k : ℕ) (digest : D) → p < size S n → IsNode S p a k → answers p ≡ Some digest → bytes_of digest ≡ node a k

-- ---- what the trees are over

-- the digests of the graftable chunks' nodes of a snapshot's grafted view
pub record AreGraftedLeaves (h : HashFunction) (g : Grafting) (s : Snapshot) (leaves : List (List ℕ)) : Type 0 where
  pub count : length leaves ≡ graftable g (length s.operations)
  pub each : (j : ℕ) → j < length leaves → get_or leaves j [] ≡ view_node h g s (j * 2 ^ height g) (height g)

-- those of some of these chunks, from the first on
pub record AreFirstGraftedLeaves (h : HashFunction) (g : Grafting) (s : Snapshot) (leaves : List (List ℕ)) : Type 0 where
  pub few : length leaves ≤ graftable g (length s.operations)
  pub each : (j : ℕ) → j < length leaves → get_or leaves j [] ≡ view_node h g s (j * 2 ^ height g) (height g)

-- the digest of a node of the tree over such chunks, by its first chunk and its height over them
abbrev pub chunk_node : HashFunction → Grafting → List (List ℕ) → ℕ → ℕ → List ℕ
chunk_node h g leaves a k = node_over h (over_chunks (height g) (ungrafted g.shape)) (λ a. []) leaves k a

-- the digest of the grafted view's node over the 2 ^ k chunks from number a on
abbrev pub grafted_node : HashFunction → Grafting → Snapshot → ℕ → ℕ → List ℕ
grafted_node h g s a k = view_node h g s (a * 2 ^ height g) (k + height g)

-- the digest of a node of the tree over a snapshot's operations
abbrev pub operations_node : HashFunction → Grafting → Snapshot → ℕ → ℕ → List ℕ
operations_node h g s = tree_node h (ungrafted g.shape) (listed s.operations)

-- ---- what they keep

-- each node of the tree over n chunks is coverable by those that are kept
abbrev pub EachIsCoverable : {D : Type 0} → Shape → ℕ → (ℕ → Option D) → Type 0
EachIsCoverable S n kept = (p a k : ℕ) → p < size S n → IsNode S p a k → IsCoverable (IsKeptIn S kept) 0 k a

-- a node of the view is kept: below the height g of chunks among the operations' nodes, else over chunks
abbrev pub IsKeptOfBoth : {D : Type 0} → Shape → ℕ → (ℕ → Option D) → (ℕ → Option D) → ℕ → ℕ → Type 0
IsKeptOfBoth S g kept operations a k =
    ((k < g) × IsKeptIn S operations a k) ⊎ ((g ≤ k) × IsKeptIn S kept (a / 2 ^ g) (k - g))

-- each node that is planned of the leaves from low to before high, of n, is coverable by what both trees keep
abbrev pub HavePlanned : {D : Type 0} → Shape → (g n low high : ℕ) → (kept operations : ℕ → Option D) → Type 0
HavePlanned S g n low high kept operations = (p a k : ℕ) → Contains (planned S n low high) p → IsNode S p a k
    → IsCoverable (IsKeptOfBoth S g kept operations) g k a

-- ---- both trees as one, over a snapshot's operations

abbrev pub both : {D : Type 0} → Grafting → Snapshot → (ℕ → Option D) → (ℕ → Option D) → ℕ → Option D
both g s chunks operations = joined g.shape (height g) (size g.shape (length s.operations)) chunks operations

-- what can be had of them, where the one keeps some nodes over chunks and the others are hashed from these
abbrev pub had_of_both : {D : Type 0} → (List ℕ → D) → (D → List ℕ) → Grafting → Snapshot → (ℕ → Option D) → (ℕ → Option D)
    → ℕ → Option D
had_of_both digest bytes_of g s kept operations =
    both g s (regrafted digest bytes_of g.shape (height g) kept) operations

-- Where the one keeps digests of the grafted view by which each node over the graftable chunks is coverable, and the other has each
-- node of the operations, both as one have each digest of the grafted view.
abbrev pub JoinedTreesAreTheView : {D : Type 0} → (List ℕ → D) → (D → List ℕ) → HashFunction → Grafting → Type 0
JoinedTreesAreTheView {D} digest bytes_of h g =
    IsGrafting g → (s : Snapshot) → IsSnapshot s → (kept operations : ℕ → Option D) →
    AnswersAreTrue bytes_of g.shape (graftable g (length s.operations)) (grafted_node h g s) kept →
    EachIsCoverable g.shape (graftable g (length s.operations)) kept →
    AreAnswersOf bytes_of g.shape (length s.operations) (operations_node h g s) operations →
    AreAnswersOf bytes_of g.shape (length s.operations) (view_node h g s) (had_of_both digest bytes_of g s kept operations)

-- ---- proofs from them

-- what a store has, with what is left of a snapshot's bits, its floor and its operations root, is the snapshot's
abbrev pub IsOfSnapshot : {D : Type 0} → (D → List ℕ) → HashFunction → Grafting → ℕ → (ℕ → Option D) → Snapshot → Type 0
IsOfSnapshot bytes_of h g nodes node s =
    (low high floor : ℕ) (status : Retained) (ops_root : List ℕ) → IsRest g.bytes status s.bits
    → s.floor ≡ min floor (length s.operations) → ops_root ≡ ops_root_of h g s
    → AreServedOf nodes node g low high status bytes_of h floor ops_root s

-- Where the two trees keep some nodes, what can be had of both is of the grafted view, and so is a proof that is made from it.
abbrev pub JoinedTreesAnswerTheView : {D : Type 0} → (List ℕ → D) → (D → List ℕ) → HashFunction → Grafting → Type 0
JoinedTreesAnswerTheView {D} digest bytes_of h g =
    IsGrafting g → (s : Snapshot) → IsSnapshot s → (kept operations : ℕ → Option D) →
    AnswersAreTrue bytes_of g.shape (graftable g (length s.operations)) (grafted_node h g s) kept →
    AnswersAreTrue bytes_of g.shape (length s.operations) (operations_node h g s) operations →
    AnswersAreTrue bytes_of g.shape (length s.operations) (view_node h g s) (had_of_both digest bytes_of g s kept operations)
    × IsOfSnapshot bytes_of h g (size g.shape (length s.operations)) (had_of_both digest bytes_of g s kept operations) s

-- A store also answers each planned position of a snapshot's operations from low to before high
abbrev pub ServesRange : {D : Type 0} → (D → List ℕ) → HashFunction → Grafting → ℕ → (ℕ → Option D) → Snapshot → ℕ → ℕ
    → Type 0
ServesRange bytes_of h g nodes node s low high =
    (floor : ℕ) (status : Retained) (ops_root : List ℕ) → IsRest g.bytes status s.bits
    → s.floor ≡ min floor (length s.operations) → ops_root ≡ ops_root_of h g s →
    AreAnswered (held_at node) g.shape (plan_over (length s.operations) low high)
    × AreServedOf nodes node g low high status bytes_of h floor ops_root s

-- it does so for each range
abbrev pub ServesSnapshot : {D : Type 0} → (D → List ℕ) → HashFunction → Grafting → ℕ → (ℕ → Option D) → Snapshot → Type 0
ServesSnapshot bytes_of h g nodes node s = (low high : ℕ) → ServesRange bytes_of h g nodes node s low high

-- Two trees as one that are the whole view are a store of the snapshot.
abbrev pub JoinedTreesServeTheView : {D : Type 0} → (List ℕ → D) → (D → List ℕ) → HashFunction → Grafting → Type 0
JoinedTreesServeTheView {D} digest bytes_of h g =
    IsGrafting g → (s : Snapshot) → IsSnapshot s → (kept operations : ℕ → Option D) →
    AnswersAreTrue bytes_of g.shape (graftable g (length s.operations)) (grafted_node h g s) kept →
    EachIsCoverable g.shape (graftable g (length s.operations)) kept →
    AreAnswersOf bytes_of g.shape (length s.operations) (operations_node h g s) operations →
    ServesSnapshot bytes_of h g (size g.shape (length s.operations)) (had_of_both digest bytes_of g s kept operations) s

-- What is planned of a range suffices to serve that range.
abbrev pub PlannedNodesServeARange : {D : Type 0} → (List ℕ → D) → (D → List ℕ) → HashFunction → Grafting → Type 0
PlannedNodesServeARange {D} digest bytes_of h g =
    IsGrafting g → (s : Snapshot) → IsSnapshot s → (kept operations : ℕ → Option D) →
    AnswersAreTrue bytes_of g.shape (graftable g (length s.operations)) (grafted_node h g s) kept →
    AnswersAreTrue bytes_of g.shape (length s.operations) (operations_node h g s) operations →
    (low high : ℕ) → HavePlanned g.shape (height g) (length s.operations) low high kept operations →
    ServesRange bytes_of h g (size g.shape (length s.operations)) (had_of_both digest bytes_of g s kept operations) s low high
