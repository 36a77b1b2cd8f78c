-- What a client that trusts one digest learns from bytes and texts.
use Rattle.std.specs.Prelude.{◌≡◌, ◌↔◌, ◌⊎◌, ℕ, Bool, List, [], Result, Ok, IfOk, IsOk, IsErr, IsTrue}
use Rattle.storage_codec.specs.Digests.{HashFunction, IsSized, Cross}
use Rattle.storage_codec.specs.Codec.{whole}
use Rattle.storage_current.specs.Snapshots.{Grafting, IsGrafting, Snapshot, IsSnapshot, canonical_root, snapshot_strings, IsActive, OperationProof, own_operation_proof}
use Rattle.storage_current.specs.CurrentProofs.{IsActiveCurrent, operation_strings}
use Rattle.storage_current.specs.CurrentWire.{operation_text, sized_operation_at, max_digests}
use Rattle.storage_current.specs.OwnWire.{IsPrompt}
use Rattle.hex.specs.Hex.{decode_of}
use Rattle.commonware_storage.specs.declared.light.text_error.TextError.{TextError}
use Rattle.commonware_storage.specs.declared.light.text_error.TextError.TheVariants.{Operation, Proof, Memory}

-- these bytes are one whole operation proof, of a location, over a chunk of so many bytes, with at most 128 digests of d bytes
pub record IsProofAt (has_pending : Bool) (d size location : ℕ) (bytes : List ℕ) : Type 0 where
  pub proof : OperationProof
  pub read : whole (sized_operation_at has_pending d size max_digests bytes) ≡ Ok (proof, [])
  pub at : proof.location ≡ location

-- the same, and the check of that proof says yes for an operation against a root
pub record IsAcceptedAt (h : HashFunction) (g : Grafting) (has_pending : Bool) (d location : ℕ)
    (bytes operation root : List ℕ) : Type 0 where
  pub proof : OperationProof
  pub read : whole (sized_operation_at has_pending d g.bytes max_digests bytes) ≡ Ok (proof, [])
  pub at : proof.location ≡ location
  pub accepted : IsActiveCurrent h g proof operation root

-- What a yes means, whatever the bytes are. Of each snapshot with that canonical root: the operation stands at the location and is
-- active there, and the bytes are what the snapshot's own proof is written as, or a string that the check hashed and a different one
-- of the root's calculation have one digest.
pub record IsTrueAt (h : HashFunction) (g : Grafting) (has_pending : Bool) (d location : ℕ)
    (bytes operation root : List ℕ) : Type 0 where
  pub proof : OperationProof
  pub read : whole (sized_operation_at has_pending d g.bytes max_digests bytes) ≡ Ok (proof, [])
  pub meaning : (s : Snapshot) → IsSnapshot s → canonical_root h g s ≡ root →
      IsActive s location operation × (bytes ≡ operation_text has_pending (own_operation_proof h g s location))
      ⊎ Cross h (operation_strings h g proof operation) (snapshot_strings h g s)

-- The other half. What a snapshot's own proof of an active operation is written as is accepted at its location.
abbrev pub OwnProofsAreAccepted : Type 0
OwnProofsAreAccepted =
    (d : ℕ) (h : HashFunction) → IsSized d h → (g : Grafting) → IsGrafting g → (has_pending : Bool)
    → IsPrompt has_pending g.shape →
    (s : Snapshot) → IsSnapshot s → (location : ℕ) (operation : List ℕ) → IsActive s location operation →
    IsAcceptedAt h g has_pending d location (operation_text has_pending (own_operation_proof h g s location)) operation
    (canonical_root h g s)

-- A call answers what each other call answers whose yes is exactly this.
abbrev pub IsAnswerOf : {E : Type 0} → Result Bool E → Type 0 → Type 0
IsAnswerOf answer Yes = (other : Bool) → (IsTrue other ↔ Yes) → IfOk answer (λ yes. yes ≡ other)

-- the same two of texts, which spell the proof's and the operation's bytes in hexadecimal
pub record IsTextAcceptedAt (h : HashFunction) (g : Grafting) (has_pending : Bool) (d location : ℕ)
    (proof operation root : List ℕ) : Type 0 where
  pub bytes : List ℕ
  pub spelled : decode_of proof ≡ Ok bytes
  pub operation_bytes : List ℕ
  pub operation_spelled : decode_of operation ≡ Ok operation_bytes
  pub accepted : IsAcceptedAt h g has_pending d location bytes operation_bytes root

pub record IsTextTrueAt (h : HashFunction) (g : Grafting) (has_pending : Bool) (d location : ℕ)
    (proof operation root : List ℕ) : Type 0 where
  pub bytes : List ℕ
  pub spelled : decode_of proof ≡ Ok bytes
  pub operation_bytes : List ℕ
  pub operation_spelled : decode_of operation ≡ Ok operation_bytes
  pub meaning : IsTrueAt h g has_pending d location bytes operation_bytes root

-- the first of a text, which spells the bytes in hexadecimal
pub record IsProofTextAt (has_pending : Bool) (d size location : ℕ) (text : List ℕ) : Type 0 where
  pub bytes : List ℕ
  pub spelled : decode_of text ≡ Ok bytes
  pub proof : IsProofAt has_pending d size location bytes

-- why the texts of an operation and of a proof have no answer: the operation's comes first
abbrev pub IsTextRefusal : TextError → List ℕ → List ℕ → Type 0
IsTextRefusal Operation operation proof = IsErr (decode_of operation)
IsTextRefusal Proof operation proof = IsOk (decode_of operation) × IsErr (decode_of proof)
IsTextRefusal Memory operation proof = Unit {0}
