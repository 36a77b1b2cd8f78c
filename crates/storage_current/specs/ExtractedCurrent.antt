-- The digests that an accepted check of a current range proof hands out.
use Rattle.std.specs.Prelude.{◌≡◌, ℕ, ◌+◌, ◌⊎◌, List, length, map}
use Rattle.std.specs.List.Sorted.{IsStrictlyIncreasing}
use Rattle.storage_codec.specs.Digests.{HashFunction, IsSized, Cross}
use Rattle.storage_merkle.specs.declared.merkle.bagging.Bagging.TheVariants.{BackwardFold}
use Rattle.storage_merkle.specs.declared.merkle.error.Error.{Error}
use Rattle.storage_merkle.specs.declared.merkle.error.Error.TheVariants.{InvalidProof, RootMismatch, Memory}
use Rattle.storage_merkle.specs.Extracted.{extracted, tree_entries}
use Rattle.storage_merkle.specs.Shape.{Laws}
use Rattle.storage_current.specs.CurrentProofs.{IsCurrent, claim, current_strings}
use Rattle.storage_current.specs.CurrentSoundness.{HasDigests}
use Rattle.storage_current.specs.Snapshots.{RangeProof, Grafting, IsSnapshot, Snapshot, canonical_root, content, snapshot_strings, view}

-- with their positions, ascending: what a snapshot's grafted view has at each node that a check of a range reads or computes in a
-- peak over one of its operations
abbrev pub view_entries : HashFunction → Grafting → Snapshot → ℕ → ℕ → List (ℕ × List ℕ)
view_entries h g s low high = tree_entries h (view g (length s.operations)) (content h g s) low high

module _ (h : HashFunction) (g : Grafting) (proof : RangeProof) (start : ℕ) (operations chunks : List (List ℕ)) where
  -- what a check has there
  abbrev pub extracted_current : List (ℕ × List ℕ)
  extracted_current = extracted h (view g proof.range.leaves) BackwardFold proof.range start
      (claim h g proof start operations chunks)

  -- the check computes a root: it says yes for some root
  abbrev pub ComputesRoot : Type 0
  ComputesRoot = (root : List ℕ) × IsCurrent h g proof start operations chunks root

  -- what an accepted check hands out, whole and ascending, each position once
  pub record AreExtractedCurrent (root : List ℕ) (digests : List (ℕ × List ℕ)) : Type 0 where
    pub accepted : IsCurrent h g proof start operations chunks root
    pub all : digests ≡ extracted_current
    pub ascending : IsStrictlyIncreasing (map (λ e. e.0) digests)

  -- why nothing is handed out: the first reason that holds, else want of memory
  abbrev pub IsNotExtracted : {F : Type 0} → List ℕ → Error F → Type 0
  IsNotExtracted root error =
      (error ≡ Memory)
      ⊎ ((error ≡ InvalidProof) × (ComputesRoot → ⊥))
      ⊎ ((error ≡ RootMismatch) × ComputesRoot × (IsCurrent h g proof start operations chunks root → ⊥))

  -- of each snapshot with a root, digests are what its grafted view has, or a string of the check and a different one of the
  -- snapshot have one digest
  abbrev pub MeansExtracted : List ℕ → List (ℕ × List ℕ) → Type 0
  MeansExtracted root digests =
      (s : Snapshot) → IsSnapshot s → canonical_root h g s ≡ root →
      (digests ≡ view_entries h g s start (start + length operations))
      ⊎ Cross h (current_strings h g proof start operations chunks) (snapshot_strings h g s)

-- Each digest that a check accepted against a snapshot's canonical root hands out is the grafted view's at its position, or a
-- string of the check and a different one of the snapshot have one digest.
abbrev pub ExtractedCurrentDigestsAreTrue : Type 0
ExtractedCurrentDigestsAreTrue =
    (d : ℕ) (h : HashFunction) → (d ≡ 32) ⊎ (d ≡ 64) → IsSized d h → (g : Grafting) → Laws g.shape →
    (proof : RangeProof) (start : ℕ) (operations chunks : List (List ℕ)) → HasDigests d proof →
    (root : List ℕ) → IsCurrent h g proof start operations chunks root →
    MeansExtracted h g proof start operations chunks root (extracted_current h g proof start operations chunks)
