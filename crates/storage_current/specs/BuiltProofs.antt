-- Proofs that are built: from which parts, and why there is none.
use Rattle.std.specs.Prelude.{◌≡◌, ℕ, ◌≤◌, ◌⊎◌, List, length, Option, Some, min}
use Rattle.std.specs.List.{All}
use Rattle.storage_codec.specs.Digests.{HashFunction}
use Rattle.storage_merkle.specs.declared.merkle.error.Error.TheVariants.{ElementPruned}
use Rattle.storage_merkle.specs.Shape.{Shape}
use Rattle.storage_merkle.specs.Plans.{PlanOf, planned, AnswersAre, IsFirstAbsent}
use Rattle.storage_bitmap.specs.Chunks.{Retained, IsRest, bit_count}
use Rattle.storage_ops.specs.declared.qmdb.error.Error.{Error}
use Rattle.storage_ops.specs.declared.qmdb.error.Error.TheVariants.{Merkle, Memory}
use Rattle.storage_current.specs.KeptSnapshots.{IsCorrupted}
use Rattle.storage_current.specs.Snapshots.{Grafting, Snapshot, graftable, view, content, ops_root_of}

-- these are a snapshot's: its length, what is left of its bits, its floor (one past the length counts as the length), its operations
-- root, and for each planned position the digest of its grafted view's node
pub record ArePartsOf {D : Type 0} (bytes_of : D → List ℕ) (answers : ℕ → Option D → Type 0) (h : HashFunction)
    (g : Grafting) (plan : PlanOf) (status : Retained) (floor : ℕ) (ops_root : List ℕ) (s : Snapshot) : Type 0 where
  pub count : length s.operations ≡ plan.leaves
  pub bits : IsRest g.bytes status s.bits
  pub floor_is : s.floor ≡ min floor plan.leaves
  pub ops_root_is : ops_root ≡ ops_root_of h g s
  pub nodes : AnswersAre bytes_of answers (planned g.shape plan.leaves plan.start plan.end) h (view g (length s.operations))
      (content h g s)

-- there is a bit for each leaf, and no chunk is pruned that is not graftable
pub record AreBitsOf (g : Grafting) (leaves : ℕ) (status : Retained) : Type 0 where
  pub all : bit_count g.bytes status ≡ leaves
  pub pruned : status.pruned ≤ graftable g leaves

-- each planned position is answered
abbrev pub AreAnswered : {D : Type 0} → (ℕ → Option D → Type 0) → Shape → PlanOf → Type 0
AreAnswered {D} answers S plan = All (λ p. (d : D) × answers p (Some d)) (planned S plan.leaves plan.start plan.end)

-- why no proof of a planned range is built: the first reason that holds, else want of memory
abbrev pub IsNotBuilt : {F D : Type 0} → (ℕ → Option D → Type 0) → Grafting → PlanOf → Retained → Error F → Type 0
IsNotBuilt answers g plan status error =
    ((p : ℕ) × IsFirstAbsent answers (planned g.shape plan.leaves plan.start plan.end) p
    × (error ≡ Merkle (ElementPruned p)))
    ⊎ (AreAnswered answers g.shape plan × (AreBitsOf g plan.leaves status → ⊥) × IsCorrupted error)
    ⊎ (error ≡ Memory)
