-- Openings: the message with which a copy begins at a location.
use Rattle.std.specs.Prelude.{◌≡◌, ℕ, ◌*◌, ◌%◌, ◌^◌, ◌<◌, ◌≤◌, Bool, List, ◌++◌, length, Ok}
use Rattle.storage_codec.specs.Codec.{Answer, front_at, vector_at}
use Rattle.storage_codec.specs.Digests.{HashFunction}
use Rattle.storage_codec.specs.Faults.{◌>>=◌}
use Rattle.storage_codec.specs.Parts.{IsBytes, varint_text, vector_text}
use Rattle.storage_merkle.specs.ProofWire.{IsAdmitted, proof_at, proof_text}
use Rattle.storage_merkle.specs.RangeProofs.{AreDigests, Proof}
use Rattle.storage_merkle.specs.Shape.{max_leaves}
use Rattle.storage_merkle.specs.Wire.{location_at}
use Rattle.storage_current.specs.CurrentWire.{as_is}
use Rattle.storage_current.specs.Openings.{IsOpeningAccepted}
use Rattle.storage_current.specs.Snapshots.{Grafting, Witness}
use Rattle.storage_current.specs.WitnessWire.{IsAdmittedWitness, witness_at, witness_of, witness_text}
use Rattle.storage_current.specs.declared.qmdb.current.proof.witness.OpsRootWitness.{OpsRootWitness}
use Rattle.storage_sync.specs.declared.sync.limits.Limits.{Limits}
use Rattle.storage_sync.specs.Messages.{AreShort, list_at, list_text}

-- where a copy begins; the operations root and its witness; a plain proof of some operations from there on, with these; and the digests
-- of the peaks over the operations before, and over the chunks before
pub record Opening : Type 0 where
  pub begin : ℕ
  pub witness : Witness
  pub ops_root : List ℕ
  pub proof : Proof
  pub operations : List (List ℕ)
  pub pins : List (List ℕ)
  pub over_chunks : List (List ℕ)

-- an opening that is accepted, against a root: a chunk begins there, and the check of its witness and of its proof says yes
pub record IsAcceptedOpening (h : HashFunction) (g : Grafting) (o : Opening) (root : List ℕ) : Type 0 where
  pub boundary : o.begin % (8 * g.bytes) ≡ 0
  pub accepted : IsOpeningAccepted h g.shape o.witness o.ops_root o.proof o.begin o.operations o.pins root

-- ---- as bytes

-- the location, the witness, the operations root, the proof, and the lists of the operations and of the pins
abbrev pub opening_text : Bool → Opening → List ℕ
opening_text has_pending o = varint_text o.begin ++ (witness_text has_pending o.witness ++ (o.ops_root ++ (proof_text o.proof
    ++ (list_text vector_text o.operations ++ (list_text as_is o.pins ++ list_text as_is o.over_chunks)))))

-- the same within limits, with digests of d bytes
abbrev pub opening_at : Bool → ℕ → Limits → List ℕ → Answer Opening
opening_at has_pending d limits bytes =
    location_at bytes >>= λ begin. witness_at has_pending d begin.1 >>= λ witness. front_at d witness.1 >>= λ root.
    proof_at d limits.max_digests root.1 >>= λ proof.
    list_at (vector_at 0 limits.max_operation_len) limits.max_ops proof.1 >>= λ operations.
    list_at (front_at d) limits.max_digests operations.1 >>= λ pins.
    list_at (front_at d) limits.max_digests pins.1 >>= λ over.
    Ok (
      record {
        begin = begin.0;
        witness = witness.0;
        ops_root = root.0;
        proof = proof.0;
        operations = operations.0;
        pins = pins.0;
        over_chunks = over.0;
      },
      over.1,
    )

-- digests that a reader of at most so many of d bytes admits
pub record AreAdmittedPins (d most : ℕ) (pins : List (List ℕ)) : Type 0 where
  pub sized : AreDigests d pins
  pub count : length pins < 2 ^ 64
  pub few : length pins ≤ most

-- an opening that it admits
pub record IsAdmittedOpening (has_pending : Bool) (d : ℕ) (limits : Limits) (o : Opening) : Type 0 where
  pub begin : o.begin ≤ max_leaves
  pub witness : IsAdmittedWitness has_pending o.witness
  pub root : length o.ops_root ≡ d
  pub digests : AreDigests d o.proof.digests
  pub proof : IsAdmitted limits.max_digests o.proof
  pub count : length o.operations < 2 ^ 64
  pub few : length o.operations ≤ limits.max_ops
  pub short : AreShort limits.max_operation_len o.operations
  pub pins : AreAdmittedPins d limits.max_digests o.pins
  pub over_chunks : AreAdmittedPins d limits.max_digests o.over_chunks

-- What an opening is written as is read again, whatever follows it: its witness is one that a value holds.
abbrev pub OpeningsAreReadAgain : (F : Type 0) {D : Type 0} → (D → List ℕ) → Bool → ℕ → Type 0
OpeningsAreReadAgain F {D} bytes_of has_pending d =
    (limits : Limits) (o : Opening) (w : OpsRootWitness F D) → o.witness ≡ witness_of bytes_of w
    → IsAdmittedOpening has_pending d limits o → (rest : List ℕ)
    → opening_at has_pending d limits (opening_text has_pending o ++ rest) ≡ Ok (o, rest)

-- What is read as an opening was written so.
abbrev pub OpeningsAreWrittenSo : Type 0
OpeningsAreWrittenSo = (has_pending : Bool) (d : ℕ) (limits : Limits) (bytes : List ℕ) (o : Opening) (rest : List ℕ) → IsBytes bytes
    → opening_at has_pending d limits bytes ≡ Ok (o, rest) → bytes ≡ opening_text has_pending o ++ rest
