-- Stores that are made of a list's own proof.
use Rattle.std.specs.Prelude.{◌≡◌, ℕ, ◌+◌, ◌<◌, ◌≤◌, List, [], length, None}
use Rattle.storage_codec.specs.Digests.{HashFunction}
use Rattle.storage_merkle.specs.Shape.{Shape, max_leaves}
use Rattle.storage_merkle.specs.declared.merkle.bagging.Bagging.TheVariants.{BackwardFold}
use Rattle.storage_merkle.specs.Trees.{listed, ungrafted}
use Rattle.storage_merkle.specs.RangeProofs.{Proof, IsAccepted, StandAt, own_proof}
use Rattle.storage_merkle.specs.Multi.{Claim, IsMultiAccepted, Stand, locations}
use Rattle.storage_merkle.specs.Stores.{Store, AreTrueAt, multi_refusal, range_refusal, store_multi_proof, store_proof}

-- some operations stand in a list from `start` on, and the proof is the list's own of these
pub record IsOwnOfList (h : HashFunction) (S : Shape) (proof : Proof) (start : ℕ) (operations list : List (List ℕ))
    (inactive : ℕ) : Type 0 where
  pub few : length list ≤ max_leaves
  pub peaks : inactive ≤ length (S.peaks (length list))
  pub some : 0 < length operations
  pub stand : StandAt list start operations
  pub proof_is : proof
      ≡ own_proof h (ungrafted S) BackwardFold (listed list) inactive start (start + length operations)

-- What a store gives of a range is accepted against a root for the operations of a list that stand there; what it gives of some
-- locations, with peaks that are those of the list's tree, for the operations that stand at these.
pub record GivesAcceptedOf (F : Type 0) (h : HashFunction) (S : Shape) (store : Store) (list : List (List ℕ))
    (root : List ℕ) : Type 0 where
  pub ranges : (low : ℕ) (operations : List (List ℕ)) → StandAt list low operations
      → range_refusal F S store low (low + length operations) ≡ None
      → IsAccepted h (ungrafted S) BackwardFold
      (store_proof h (ungrafted S) store low (low + length operations)) low (listed operations) root
  pub multi : (peaks : List (ℕ × List ℕ)) → AreTrueAt h (ungrafted S) (listed list) peaks
      → (claims : List Claim) → Stand list claims → multi_refusal F S store peaks (locations claims) ≡ None
      → IsMultiAccepted h (ungrafted S) BackwardFold (store_multi_proof S store peaks (locations claims)) claims
      (λ a. []) root
