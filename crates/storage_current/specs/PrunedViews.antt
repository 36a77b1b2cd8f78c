-- A tree over chunks that keeps pins and leaves alone and a tree over the operations, read as one: what can be had of both is of the
-- snapshot's grafted view, and it can be had just where it is coverable.
use Rattle.std.specs.Prelude.{◌≡◌, ℕ, ◌<◌, ◌≤◌, ◌↔◌, List, length, Option, IsSome}
use Rattle.storage_codec.specs.Digests.{HashFunction}
use Rattle.storage_merkle.specs.Shape.{Shape, size, max_leaves}
use Rattle.storage_merkle.specs.Nodes.{IsNode}
use Rattle.storage_current.specs.Combined.{joined}
use Rattle.storage_current.specs.CombinedViews.{AnswersAreTrue, AreFirstGraftedLeaves, IsKeptOfBoth, IsOfSnapshot, chunk_node, had_of_both, operations_node}
use Rattle.storage_current.specs.GraftedTrees.{IsCoverable, KeptChunks, Keeps, regrafted, tree_at}
use Rattle.storage_current.specs.Snapshots.{Grafting, IsGrafting, Snapshot, IsSnapshot, view_node}

-- Both as one have a node of the view just where it is coverable.
abbrev pub CoverableNodesAreHad : {D : Type 0} → (List ℕ → D) → (D → List ℕ) → Shape → Type 0
CoverableNodesAreHad {D} digest bytes_of S =
    (g n p a k : ℕ) (chunks operations : ℕ → Option D) → 1 ≤ g → n ≤ max_leaves → p < size S n → IsNode S p a k →
    (IsSome (joined S g (size S n) (regrafted digest bytes_of S g chunks) operations p)
    ↔ IsCoverable (IsKeptOfBoth S g chunks operations) g k a)

-- Where the one keeps the digests of the first of a snapshot's graftable chunks, whichever of them are pruned, and what the other has
-- is of the snapshot's operations, what can be had of both is of the grafted view; so a proof that is made from them is the snapshot's
-- own, the one that is made from the tree over all these chunks with nothing pruned.
abbrev pub PrunedTreesServeTheView : {D : Type 0} → (List ℕ → D) → (D → List ℕ) → HashFunction → Grafting → Type 0
PrunedTreesServeTheView {D} digest bytes_of h g =
    IsGrafting g → (s : Snapshot) → IsSnapshot s → (leaves : List (List ℕ)) → AreFirstGraftedLeaves h g s leaves →
    (t : KeptChunks D) → Keeps bytes_of g.shape (λ list k a. chunk_node h g list a k) t leaves →
    (operations : ℕ → Option D) →
    AnswersAreTrue bytes_of g.shape (length s.operations) (operations_node h g s) operations →
    let node = had_of_both digest bytes_of g s (tree_at g.shape t.pruned t.pinned t.leaves) operations in
    AnswersAreTrue bytes_of g.shape (length s.operations) (view_node h g s) node
    × IsOfSnapshot bytes_of h g (size g.shape (length s.operations)) node s
