-- A proof that a plan builds of a tree's nodes is the tree's own: it is accepted, and it is read as it was written.
use Rattle.std.proofs.Common.{◌≡◌, ℕ, ◌<◌, ◌≤◌, ◌^◌, ◌++◌, List, length, Option, Ok, refl, sym, ap, subst, arith}
use Rattle.storage_codec.specs.Digests.{HashFunction, IsSized}
use Rattle.storage_merkle.specs.Shape.{Laws}
use Rattle.storage_merkle.specs.declared.merkle.bagging.Bagging.{Bagging}
use Rattle.storage_merkle.specs.Trees.{Layout, Content, tree_root}
use Rattle.storage_merkle.specs.RangeProofs.{Proof, AreDigests, IsAccepted, IsOwn, SameChunks, own_digest, own_proof, sites}
use Rattle.storage_merkle.specs.Plans.{PlanOf, IsOwnOfEach}
use Rattle.storage_merkle.specs.ProofWire.{proof_text, proof_at}
use Rattle.storage_merkle.specs.Laws.ProofWire.{all_digests, proof_again}
use Rattle.storage_merkle.specs.Built.{IsPlanServed}
use Rattle.storage_merkle.proofs.RangeOwn.{own_accepted}
use Rattle.storage_merkle.proofs.RangeSound.{own-wide}

module _ {D : Type 0} (text : D → List ℕ) (answers : ℕ → Option D → Type 0) (h : HashFunction) (T : Layout)
    (L : Laws T.shape) (b : Bagging) (plan : PlanOf) (inactive : ℕ) (proof : Proof) (claim content : Content)
    (own : IsOwnOfEach text answers h T.shape b plan inactive proof)
    (is : IsPlanServed text answers h T plan inactive claim content) where
  proof_is : proof ≡ own_proof h T b content inactive plan.start plan.end
  proof_is = own T content refl is.leaves is.nodes_are

  is_own : IsOwn h T b proof plan.start claim content inactive
  is_own = record {
    proof_is = subst (λ e. proof ≡ own_proof h T b content inactive plan.start e) (sym is.range) proof_is;
    elements_are = is.elements_are;
    chunks_are = subst (λ e. SameChunks T (length content.elements) plan.start e claim content) (sym is.range)
        (subst (λ n. SameChunks T n plan.start plan.end claim content) (sym is.leaves) is.chunks_are);
  }

  few : length content.elements ≤ 2 ^ 62
  few = subst (λ n. n ≤ 2 ^ 62) (sym is.leaves) is.few

  pub built_accepted : IsAccepted h T b proof plan.start claim (tree_root h T b content inactive)
  built_accepted = own_accepted h T L b plan.start claim content inactive proof few (subst
      (λ n. inactive ≤ length (T.shape.peaks n)) (sym is.leaves) is.peaks) (omega (arith, is.some, is.range)) is_own

  wide : (d : ℕ) → IsSized d h → AreDigests d proof.digests
  wide d sized =
      let n = length content.elements in
      subst (λ (p : Proof). AreDigests d p.digests) (sym proof_is)
      (all_digests (own_digest h T b content n inactive plan.start plan.end) d
      (own-wide d h T b content n inactive plan.start plan.end sized) (sites T plan.start plan.end b n inactive))

  pub built_again : (d : ℕ) → IsSized d h → (most : ℕ) (rest : List ℕ) → length proof.digests ≤ most → most < 2 ^ 64
      → proof_at d most (proof_text proof ++ rest) ≡ Ok (proof, rest)
  built_again d sized most rest all fits =
      let leaves : proof.leaves ≡ length content.elements = ap (λ (p : Proof). p.leaves) proof_is in
      let count : proof.inactive ≡ inactive = ap (λ (p : Proof). p.inactive) proof_is in
      proof_again d most proof rest (wide d sized) (record {
        leaves = omega (arith, leaves, few);
        inactive = omega (arith, count, is.peaks, L.few plan.leaves is.few);
        count = omega (arith, all, fits);
        few = all;
      })
