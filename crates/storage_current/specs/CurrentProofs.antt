-- The checks of range proofs, operation proofs and witnesses against a canonical root.
use Rattle.std.specs.Prelude.{◌≡◌, ℕ, ◌+◌, ◌-◌, ◌/◌, ◌%◌, ◌≤◌, ◌^◌, List, [], ◌∷◌, ◌++◌, length, Bool, true, if◌then◌else◌, ◌&&◌, leb, ltb, eqb, Option, Some, None, is_some, not}
use Rattle.storage_codec.specs.Digests.{HashFunction}
use Rattle.storage_merkle.specs.declared.merkle.bagging.Bagging.TheVariants.{BackwardFold}
use Rattle.storage_merkle.specs.Trees.{Content}
use Rattle.storage_merkle.specs.RangeProofs.{AreDigests, CountsFit, check_strings, recomputed_root}
use Rattle.storage_bitmap.specs.Chunks.{IsChunkSize}
use Rattle.storage_bitmap.specs.Packed.{bit_in}
use Rattle.storage_current.specs.Grafted.{supplied}
use Rattle.storage_current.specs.Snapshots.{Grafting, height, complete, graftable, view, slot, counted_slot, canonical_string, first_chunk, last_chunk, RangeProof, OperationProof, Witness}

module _ (h : HashFunction) (g : Grafting) (proof : RangeProof) (start : ℕ) (operations chunks : List (List ℕ)) where
  -- chunk j as claimed
  abbrev pub claimed : ℕ → List ℕ
  claimed j = supplied (first_chunk g start) chunks j

  abbrev pub claim : Content
  claim = record { elements = operations; chunk = λ a. claimed (a / 2 ^ height g) }

  -- whether the range touches the pending chunk, or the partial one
  abbrev pub touches_pending : Bool
  touches_pending =
      leb (first_chunk g start) (graftable g proof.range.leaves)
      && (leb (graftable g proof.range.leaves) (last_chunk g start (length operations))
      && ltb (graftable g proof.range.leaves) (complete g proof.range.leaves))

  abbrev pub touches_partial : Bool
  touches_partial = leb (complete g proof.range.leaves) (last_chunk g start (length operations))

  abbrev pub current_string : List ℕ
  current_string =
      canonical_string proof.ops_root (recomputed_root h (view g proof.range.leaves) BackwardFold proof.range start claim)
      proof.pending (proof.range.leaves % 2 ^ height g) proof.partial

  -- each string given to the digest function by the check
  abbrev pub current_strings : List (List ℕ)
  current_strings = current_string ∷ (check_strings h (view g proof.range.leaves) BackwardFold proof.range start claim
      ++ ((if touches_pending then claimed (graftable g proof.range.leaves) ∷ [] else [])
      ++ (if touches_partial then claimed (complete g proof.range.leaves) ∷ [] else [])))

  -- where the check of a range of operations and the chunks that it touches says yes
  pub record IsCurrent (root : List ℕ) : Type 0 where
    pub size : IsChunkSize g.bytes
    pub counts : CountsFit h (view g proof.range.leaves) BackwardFold proof.range start claim
    pub chunk_count : length chunks ≡ last_chunk g start (length operations) - first_chunk g start + 1
    pub chunk_lengths : AreDigests g.bytes chunks
    pub one_pending : complete g proof.range.leaves ≤ graftable g proof.range.leaves + 1
    pub has_pending : is_some proof.pending ≡ ltb (graftable g proof.range.leaves) (complete g proof.range.leaves)
    pub has_partial : is_some proof.partial ≡ not (eqb (proof.range.leaves % 2 ^ height g) 0)
    pub pending_is : touches_pending ≡ true → proof.pending ≡ Some (h (claimed (graftable g proof.range.leaves)))
    pub partial_is : touches_partial ≡ true → proof.partial ≡ Some (h (claimed (complete g proof.range.leaves)))
    pub root_is : h current_string ≡ root

-- where the check of an operation says yes: the bit of its location is set in the chunk, and the check of that range says yes
pub record IsActiveCurrent (h : HashFunction) (g : Grafting) (proof : OperationProof)
    (operation root : List ℕ) : Type 0 where
  pub bit : bit_in proof.chunk (proof.location % 2 ^ height g) ≡ true
  pub current : IsCurrent h g proof.range proof.location (operation ∷ []) (proof.chunk ∷ []) root

abbrev pub operation_strings : HashFunction → Grafting → OperationProof → List ℕ → List (List ℕ)
operation_strings h g proof operation = current_strings h g proof.range proof.location (operation ∷ [])
    (proof.chunk ∷ [])

-- the string of a witness, whose digest is compared with the root
abbrev pub counted : Option (ℕ × List ℕ) → List ℕ
counted None = []
counted (Some partial) = counted_slot partial.0 (Some partial.1)

abbrev pub witness_string : Witness → List ℕ → List ℕ
witness_string w ops_root = ops_root ++ (w.grafted_root ++ (slot w.pending ++ counted w.partial))

-- a slot is empty, or has d bytes
abbrev pub IsSlot : ℕ → Option (List ℕ) → Type 0
IsSlot d None = Unit {0}
IsSlot d (Some x) = length x ≡ d
