-- What holds of a range proof that a plan builds, in memory and on the wire.
use Rattle.std.specs.Prelude.{◌≡◌, ℕ, ◌+◌, ◌<◌, ◌≤◌, ◌^◌, ◌++◌, List, length, Option, Ok}
use Rattle.storage_codec.specs.Digests.{HashFunction}
use Rattle.storage_merkle.specs.declared.merkle.bagging.Bagging.{Bagging}
use Rattle.storage_merkle.specs.Trees.{Layout, Content, tree_root}
use Rattle.storage_merkle.specs.RangeProofs.{Proof, IsAccepted, StandAt, SameChunks}
use Rattle.storage_merkle.specs.Plans.{PlanOf, AnswersAre, IsOwnOfEach, planned}
use Rattle.storage_merkle.specs.ProofWire.{proof_text, proof_at}
use Rattle.storage_merkle.specs.Shape.{max_leaves}

-- the answers for a plan's positions are the digests of the nodes of the tree over some content, and what is claimed of the
-- plan's range stands in it
pub record IsPlanServed {D : Type 0} (bytes_of : D → List ℕ) (answers : ℕ → Option D → Type 0) (h : HashFunction) (T : Layout)
    (plan : PlanOf) (inactive : ℕ) (claim content : Content) : Type 0 where
  pub leaves : length content.elements ≡ plan.leaves
  pub few : plan.leaves ≤ max_leaves
  pub peaks : inactive ≤ length (T.shape.peaks plan.leaves)
  pub some : plan.start < plan.end
  pub range : plan.start + length claim.elements ≡ plan.end
  pub nodes_are : AnswersAre bytes_of answers (planned T.shape plan.leaves plan.start plan.end) h T content
  pub elements_are : StandAt content.elements plan.start claim.elements
  pub chunks_are : SameChunks T plan.leaves plan.start plan.end claim content

-- A proof that a plan builds from the nodes of a tree is accepted against the tree's root.
abbrev pub BuiltRangeProofsAreAccepted : {D : Type 0} → (D → List ℕ) → (ℕ → Option D → Type 0) → HashFunction → Layout
    → Bagging → Type 0
BuiltRangeProofsAreAccepted bytes_of answers h T b =
    (plan : PlanOf) (inactive : ℕ) (proof : Proof) (claim content : Content) →
    IsOwnOfEach bytes_of answers h T.shape b plan inactive proof →
    IsPlanServed bytes_of answers h T plan inactive claim content →
    IsAccepted h T b proof plan.start claim (tree_root h T b content inactive)

-- What such a proof, with digests of d bytes, is written as is read as the same proof, whatever follows it, by a reader that
-- admits at least so many digests.
abbrev pub BuiltRangeProofsAreReadAgain : {D : Type 0} → (D → List ℕ) → (ℕ → Option D → Type 0) → ℕ → HashFunction
    → Layout → Bagging → Type 0
BuiltRangeProofsAreReadAgain bytes_of answers d h T b =
    (plan : PlanOf) (inactive : ℕ) (proof : Proof) (claim content : Content) →
    IsOwnOfEach bytes_of answers h T.shape b plan inactive proof →
    IsPlanServed bytes_of answers h T plan inactive claim content →
    (most : ℕ) (rest : List ℕ) → length proof.digests ≤ most → most < 2 ^ 64 →
    proof_at d most (proof_text proof ++ rest) ≡ Ok (proof, rest)
