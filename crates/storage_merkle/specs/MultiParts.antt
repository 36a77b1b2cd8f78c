-- The steps of a check of a multi proof.
use Rattle.std.specs.Prelude.{◌≡◌, ℕ, ◌≤◌, List, length, Option, Some, None}
use Rattle.std.specs.List.Sorted.{IsNonDecreasing}
use Rattle.storage_codec.specs.Digests.{HashFunction}
use Rattle.storage_merkle.specs.Calc.{Site, Values}
use Rattle.storage_merkle.specs.declared.merkle.bagging.Bagging.{Bagging}
use Rattle.storage_merkle.specs.Trees.{Layout}
use Rattle.storage_merkle.specs.RangeProofs.{Proof}
use Rattle.storage_merkle.specs.Multi.{Claim, element_at, multi_string, ClaimsFit}
use Rattle.storage_merkle.specs.Shape.{max_leaves}

-- the root that a check recomputes where the counts fit, and none where they don't
abbrev pub IsMultiRecomputed : HashFunction → Layout → Bagging → Proof → List Claim → (ℕ → List ℕ)
    → Option (List ℕ) → Type 0
IsMultiRecomputed h T b proof claims chunk None = ClaimsFit h T b proof claims chunk → ⊥
IsMultiRecomputed h T b proof claims chunk (Some root) =
    ClaimsFit h T b proof claims chunk × (root ≡ h (multi_string h T b proof claims chunk))

-- what stands at the names of a calculation: digests, claimed elements, and chunks
abbrev pub claimed_values : (Site → List ℕ) → List Claim → (ℕ → List ℕ) → Values
claimed_values digest claims chunk = record { digest = digest; element = element_at claims; chunk = chunk }

-- positions in a tree over n leaves, ascending, with a digest for each
pub record AreGiven (n : ℕ) {D : Type 0} (positions : List ℕ) (digests : List D) : Type 0 where
  pub few : n ≤ max_leaves
  pub rising : IsNonDecreasing positions
  pub enough : length positions ≤ length digests
