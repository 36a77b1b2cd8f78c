-- Proofs from stores and logs that may fail.
use Rattle.std.specs.Prelude.{◌≡◌, ℕ, ◌+◌, ◌<◌, ◌≤◌, ◌⊎◌, ◌↔◌, List, length, min, Option, Some, None, Result, Err}
use Rattle.storage_codec.specs.Digests.{HashFunction}
use Rattle.storage_merkle.specs.declared.merkle.error.Error.{Error as Refusal}
use Rattle.storage_merkle.specs.declared.merkle.error.Error.TheVariants as tree
use Rattle.storage_merkle.specs.Shape.{size}
use Rattle.storage_merkle.specs.Plans.{PlanOf, refusal, planned, IsFirstAbsent, IsFirstFault}
use Rattle.storage_bitmap.specs.Chunks.{Retained, bit_count}
use Rattle.storage_ops.specs.declared.qmdb.error.Error.{Error}
use Rattle.storage_ops.specs.declared.qmdb.error.Error.TheVariants.{Merkle, OperationPruned, Log, Memory}
use Rattle.storage_current.specs.BuiltProofs.{ArePartsOf, AreAnswered, AreBitsOf, IsNotBuilt}
use Rattle.storage_current.specs.KeptSnapshots.{IsCorrupted}
use Rattle.storage_current.specs.Snapshots.{Grafting, Snapshot, first_chunk}

-- the answer is a fault of the store, or of the log, whatever its code
abbrev pub IsStoreFault : {X F : Type 0} → Result X (Error F) → Type 0
IsStoreFault result = (code : ℕ) × (result ≡ Err (Merkle (tree.Source code)))

abbrev pub IsLogFault : {X F : Type 0} → Result X (Error F) → Type 0
IsLogFault result = (code : ℕ) × (result ≡ Err (Log code))

-- a count of failures grew just where the answer is a fault, and then by one
pub record Counts (fault : Type 0) (before after : ℕ) : Type 0 where
  pub told : fault ↔ (after ≡ before + 1)
  pub once : (after ≡ before) ⊎ (after ≡ before + 1)

-- the refusal is corrupted data of a tree; its text is not told
abbrev pub IsNoTree : {F : Type 0} → Error F → Type 0
IsNoTree (Merkle (tree.DataCorrupted text)) = Unit {0}
IsNoTree _ = ⊥

-- the plan of the leaves from low to before high of a tree of n leaves
abbrev pub plan_over : ℕ → ℕ → ℕ → PlanOf
plan_over n low high = record { leaves = n; start = low; end = high }

-- what a store has at a position
abbrev pub held_at : {D : Type 0} → (ℕ → Option D) → ℕ → Option D → Type 0
held_at node p answer = answer ≡ node p

-- a store failed as it may at the first of the positions that is absent or may fail
abbrev pub IsFailedRead : {F D : Type 0} → (ℕ → Option D → Type 0) → (ℕ → ℕ → Type 0) → List ℕ → Error F → Type 0
IsFailedRead held may_fail positions error =
    (code : ℕ) × IsFirstFault held may_fail positions code × (error ≡ Merkle (tree.Source code))

-- why the digests at positions are not read: a fault there, the first position without one, or want of memory
abbrev pub IsUnread : {F D : Type 0} → (ℕ → Option D → Type 0) → (ℕ → ℕ → Type 0) → List ℕ → Error F → Type 0
IsUnread held may_fail positions error =
    IsFailedRead held may_fail positions error
    ⊎ ((p : ℕ) × IsFirstAbsent held positions p × (error ≡ Merkle (tree.ElementPruned p)))
    ⊎ (error ≡ Memory)

-- why no proof of a planned range is read from a store: the first reason that holds, else want of memory
abbrev pub IsNotRead : {F D : Type 0} → (ℕ → Option D) → (ℕ → ℕ → Type 0) → Grafting → PlanOf → Retained → Error F → Type 0
IsNotRead node may_fail g plan status error =
    IsFailedRead (held_at node) may_fail (planned g.shape plan.leaves plan.start plan.end) error
    ⊎ IsNotBuilt (held_at node) g plan status error

-- why no proof of the leaves from low to before high is made: the first reason that holds, else want of memory
abbrev pub IsNotMade : {F D : Type 0} → (nodes : ℕ) (node : ℕ → Option D) (may_fail : ℕ → ℕ → Type 0) → Grafting
    → (low high : ℕ) → Retained → Error F → Type 0
IsNotMade {F} nodes node may_fail g low high status error =
    (((n : ℕ) → size g.shape n ≡ nodes → ⊥) × IsNoTree error)
    ⊎ ((n : ℕ) × (size g.shape n ≡ nodes) × (((e : Refusal F) × (refusal F n low high ≡ Some e) × (error ≡ Merkle e))
    ⊎ (refusal F n low high ≡ None) × IsNotRead node may_fail g (plan_over n low high) status error))
    ⊎ (error ≡ Memory)

module _ {D : Type 0} (nodes : ℕ) (node : ℕ → Option D) (g : Grafting) (low high : ℕ) (status : Retained) where
  -- a store with so many nodes has what a proof of the leaves from low to before high is made from
  pub record IsServable (F : Type 0) : Type 0 where
    pub leaves : ℕ
    pub tree : size g.shape leaves ≡ nodes
    pub planned : refusal F leaves low high ≡ None
    pub answered : AreAnswered (held_at node) g.shape (plan_over leaves low high)
    pub bits : AreBitsOf g leaves status

  -- the store is a snapshot's, and the other parts are its own
  pub record AreServedOf (bytes_of : D → List ℕ) (h : HashFunction) (floor : ℕ) (ops_root : List ℕ)
      (s : Snapshot) : Type 0 where
    pub tree : size g.shape (length s.operations) ≡ nodes
    pub parts : ArePartsOf bytes_of (held_at node) h g (plan_over (length s.operations) low high) status floor ops_root s

-- ---- with the operations

-- the location past the range of at most so many operations from `start` on, of so many
abbrev pub end_of : ℕ → ℕ → ℕ → ℕ
end_of start most count = min (start + most) count

-- a location is that of an operation whose chunk of bits is not pruned
pub record IsKept (g : Grafting) (start : ℕ) (status : Retained) : Type 0 where
  pub within : start < bit_count g.bytes status
  pub kept : status.pruned ≤ first_chunk g start

-- why there is none: the first reason that holds
abbrev pub IsGone : {F : Type 0} → Grafting → ℕ → Retained → Error F → Type 0
IsGone g start status error =
    ((bit_count g.bytes status ≤ start) × (error ≡ Merkle (tree.RangeOutOfBounds start)))
    ⊎ ((start < bit_count g.bytes status) × (first_chunk g start < status.pruned) × (error ≡ OperationPruned start))

-- a log holds the locations from low to before high
abbrev pub HoldsRange : (first past low high : ℕ) → Type 0
HoldsRange first past low high = (first ≤ low) × (high ≤ past)

-- a read of some location from low to before high may fail with the code
abbrev pub MayFailWithin : (may_fail : ℕ → ℕ → Type 0) (low high code : ℕ) → Type 0
MayFailWithin may_fail low high code = (l : ℕ) × (low ≤ l) × (l < high) × may_fail l code

-- a log failed as it may in that range
abbrev pub IsFailedLog : {F : Type 0} → (may_fail : ℕ → ℕ → Type 0) (low high : ℕ) → Error F → Type 0
IsFailedLog may_fail low high error = (code : ℕ) × MayFailWithin may_fail low high code × (error ≡ Log code)

-- why no proof with its operations is made from a store and a log: the first reason that holds, else want of memory
abbrev pub IsNotAnswered : {F D : Type 0} → (nodes : ℕ) (node : ℕ → Option D) (may_fail : ℕ → ℕ → Type 0)
    → (first past : ℕ) (log_may_fail : ℕ → ℕ → Type 0) → Grafting → (start high : ℕ) → Retained → Error F → Type 0
IsNotAnswered {F} nodes node may_fail first past log_may_fail g start high status error =
    IsGone g start status error
    ⊎ (IsKept g start status × IsNotMade nodes node may_fail g start high status error)
    ⊎ (IsKept g start status × IsServable nodes node g start high status F × (HoldsRange first past start high → ⊥)
    × IsCorrupted error)
    ⊎ (IsKept g start status × IsServable nodes node g start high status F × HoldsRange first past start high
    × IsFailedLog log_may_fail start high error)
    ⊎ (error ≡ Memory)

-- a store and a log have what a proof with its operations is made from
pub record IsAnswerable {D : Type 0} (nodes : ℕ) (node : ℕ → Option D) (first past : ℕ) (g : Grafting) (start high : ℕ)
    (status : Retained) (F : Type 0) : Type 0 where
  pub start_is : IsKept g start status
  pub store : IsServable nodes node g start high status F
  pub log : HoldsRange first past start high
