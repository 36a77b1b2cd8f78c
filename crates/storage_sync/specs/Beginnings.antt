-- What a server's opening is, and why there is none.
use Rattle.std.specs.Prelude.{◌≡◌, ℕ, ◌+◌, ◌*◌, ◌/◌, ◌%◌, ◌^◌, ◌<◌, ◌≤◌, length}
use Rattle.storage_codec.specs.Digests.{HashFunction}
use Rattle.storage_merkle.specs.RangeProofs.{StandAt}
use Rattle.storage_current.specs.Beginnings.{IsOwnPlainProof}
use Rattle.storage_current.specs.Pins.{HavePins, chunk_pins, operation_pins}
use Rattle.storage_current.specs.Served.{MayFailWithin}
use Rattle.storage_current.specs.Snapshots.{Grafting, IsGrafting, IsSnapshot, Snapshot, canonical_root, height, ops_root_of, own_witness}
use Rattle.storage_sync.specs.Openings.{IsAcceptedOpening, Opening}
use Rattle.storage_sync.specs.declared.sync.unanswered.Unanswered.{Unanswered}
use Rattle.storage_sync.specs.declared.sync.unanswered.Unanswered.TheVariants.{OutOfBounds, NotAtChunk, Pruned, Corrupted, Log, Memory}

-- a copy may begin at a location of n operations: a chunk begins there, and the pins of the chunks before are nodes of the view
pub record IsBeginning (g : Grafting) (n begin : ℕ) : Type 0 where
  pub within : begin < n
  pub boundary : begin % (8 * g.bytes) ≡ 0
  pub pinned : HavePins g n (begin / 2 ^ height g)

-- it is at or behind the chunks that are pruned, and the first operation of a log
pub record IsLeft (g : Grafting) (pruned first begin : ℕ) : Type 0 where
  pub bits : pruned ≤ begin / 2 ^ height g
  pub operations : first ≤ begin

-- a snapshot's own opening at a location
pub record IsOwnOpening (h : HashFunction) (g : Grafting) (s : Snapshot) (begin : ℕ) (o : Opening) : Type 0 where
  pub at : o.begin ≡ begin
  pub begins : IsBeginning g (length s.operations) begin
  pub some : 0 < length o.operations
  pub witness_is : o.witness ≡ own_witness h g s
  pub ops_root_is : o.ops_root ≡ ops_root_of h g s
  pub proof_is : IsOwnPlainProof h g s begin (begin + length o.operations) o.proof
  pub there : StandAt s.operations begin o.operations
  pub pins_are : o.pins ≡ operation_pins h g s begin
  pub over_chunks_are : o.over_chunks ≡ chunk_pins h g s (begin / 2 ^ height g)

-- It is accepted against the snapshot's canonical root.
abbrev pub ServedOpeningsAreAccepted : Type 0
ServedOpeningsAreAccepted =
    (h : HashFunction) (g : Grafting) → IsGrafting g → (s : Snapshot) → IsSnapshot s → (begin : ℕ) (o : Opening)
    → IsOwnOpening h g s begin o → IsAcceptedOpening h g o (canonical_root h g s)

-- ---- why there is none, of n operations with so many chunks pruned, and a log that begins at this location

abbrev pub HasNoBeginning : Grafting → (n pruned first begin : ℕ) → Unanswered → Type 0
HasNoBeginning g n pruned first begin OutOfBounds = n ≤ begin
HasNoBeginning g n pruned first begin NotAtChunk = (begin < n) × (IsBeginning g n begin → ⊥)
HasNoBeginning g n pruned first begin Pruned = IsBeginning g n begin × (IsLeft g pruned first begin → ⊥)
HasNoBeginning g n pruned first begin Memory = Unit {0}
HasNoBeginning g n pruned first begin error = ⊥

-- from there on all is kept, and the log, which ends at this location, has the first operation
pub record CanBegin (g : Grafting) (n pruned first past begin : ℕ) : Type 0 where
  pub begins : IsBeginning g n begin
  pub left : IsLeft g pruned first begin
  pub logged : begin < past

-- the first reason that holds, else want of memory
abbrev pub IsUnopened : Grafting → (n pruned first past : ℕ) → (may_fail : ℕ → ℕ → Type 0) → (begin : ℕ) → Unanswered → Type 0
IsUnopened g n pruned first past may_fail begin Corrupted =
    IsBeginning g n begin × IsLeft g pruned first begin × (past ≤ begin)
IsUnopened g n pruned first past may_fail begin (Log code) =
    CanBegin g n pruned first past begin × MayFailWithin may_fail begin (begin + 1) code
IsUnopened g n pruned first past may_fail begin error = HasNoBeginning g n pruned first begin error
