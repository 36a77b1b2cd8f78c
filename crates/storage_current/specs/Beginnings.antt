-- What is told of a snapshot for a copy that begins at an operation, and why it is not.
use Rattle.std.specs.Prelude.{◌≡◌, ◌⊎◌, ℕ, ◌<◌, ◌≤◌, List, length, map, Option, MatchOption}
use Rattle.std.specs.Global.{Vec}
use Rattle.storage_codec.specs.Digests.{HashFunction}
use Rattle.storage_merkle.specs.declared.merkle.bagging.Bagging.TheVariants.{BackwardFold}
use Rattle.storage_merkle.specs.declared.merkle.error.Error.TheVariants.{RangeOutOfBounds}
use Rattle.storage_merkle.specs.Plans.{refusal}
use Rattle.storage_merkle.specs.RangeProofs.{Proof, own_proof}
use Rattle.storage_merkle.specs.Trees.{listed, ungrafted}
use Rattle.storage_ops.specs.declared.qmdb.error.Error.{Error}
use Rattle.storage_ops.specs.declared.qmdb.error.Error.TheVariants.{Memory, Merkle, OperationPruned}
use Rattle.storage_current.specs.Pins.{HavePins, chunk_pins}
use Rattle.storage_current.specs.Snapshots.{Grafting, Snapshot, exact_of}

-- ---- plain proofs

-- it is the own one of the tree over the operations alone, of those from start to before end
abbrev pub IsOwnPlainProof : HashFunction → Grafting → Snapshot → (start end : ℕ) → Proof → Type 0
IsOwnPlainProof h g s start end proof =
    proof ≡ own_proof h (ungrafted g.shape) BackwardFold (listed s.operations) (exact_of h g s) start end

-- why there is none, of n operations of which the first few are pruned: the first reason that holds, else want of memory
abbrev pub IsPlainRefused : {F : Type 0} → (pruned n start end : ℕ) → Error F → Type 0
IsPlainRefused {F} pruned n start end error =
    ((start < pruned) × (error ≡ OperationPruned start))
    ⊎ ((pruned ≤ start) × MatchOption (refusal F n start end) (error ≡ Memory) (λ refused. error ≡ Merkle refused))

-- ---- pins

-- why there are none over the operations before a location: the first reason that holds, else want of memory
abbrev pub IsPinsRefused : {F : Type 0} → (pruned n location : ℕ) → Error F → Type 0
IsPinsRefused pruned n location error =
    ((location < pruned) × (error ≡ OperationPruned location))
    ⊎ ((pruned ≤ location) × (n < location) × (error ≡ Merkle (RangeOutOfBounds location)))
    ⊎ ((pruned ≤ location) × (location ≤ n) × (error ≡ Memory))

-- the view's pins over so many chunks: none where one of them is no node of it
abbrev pub ArePinsOfView : {D : Type 0} → (D → List ℕ) → HashFunction → Grafting → Snapshot → ℕ → Option (Vec D) → Type 0
ArePinsOfView bytes_of h g s chunks o = MatchOption o (HavePins g (length s.operations) chunks → ⊥)
    (λ pins. HavePins g (length s.operations) chunks × (map bytes_of pins.items ≡ chunk_pins h g s chunks))
