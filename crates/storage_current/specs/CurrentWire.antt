-- What current range proofs and operation proofs are written as, and what reading answers.
use Rattle.std.specs.Prelude.{◌≡◌, ℕ, ◌≤◌, ◌^◌, Bool, List, ◌++◌, length, Ok, Err, codes, leb, ◌&&◌, if◌then◌else◌}
use Rattle.storage_codec.specs.Codec.{Answer, front_at, option_at}
use Rattle.storage_codec.specs.Faults.{◌>>=◌, Invalid}
use Rattle.storage_codec.specs.Parts.{option_text, varint_text}
use Rattle.storage_merkle.specs.Wire.{location_at, slot_text, slot_at, IsPendingSlot}
use Rattle.storage_merkle.specs.ProofWire.{proof_text, proof_at, IsAdmitted}
use Rattle.storage_merkle.specs.Shape.{max_leaves}
use Rattle.storage_bitmap.specs.Chunks.{halves, IsChunkSize}
use Rattle.storage_current.specs.Snapshots.{RangeProof, OperationProof}

-- the most digests that a reader of single operation proofs is asked to admit
abbrev pub max_digests : ℕ
max_digests = 128

-- a digest is written as its bytes
abbrev pub as_is : List ℕ → List ℕ
as_is digest = digest

-- the range proof, the slot of the pending chunk's digest, the digest of the partial chunk or none, the operations root
abbrev pub range_proof_text : Bool → RangeProof → List ℕ
range_proof_text has_pending p = proof_text p.range
    ++ (slot_text has_pending as_is p.pending ++ (option_text as_is p.partial ++ p.ops_root))

-- the same with digests of d bytes, at most so many of them in the range proof
abbrev pub range_proof_at : Bool → ℕ → ℕ → List ℕ → Answer RangeProof
range_proof_at has_pending d most bytes =
    proof_at d most bytes >>= λ range. slot_at has_pending (front_at d) range.1 >>= λ pending.
    option_at (front_at d) pending.1 >>= λ partial. front_at d partial.1 >>= λ root.
    Ok (record { range = range.0; pending = pending.0; partial = partial.0; ops_root = root.0 }, root.1)

-- the location, the chunk, the proof of the one operation there
abbrev pub operation_text : Bool → OperationProof → List ℕ
operation_text has_pending p = varint_text p.location ++ (p.chunk ++ range_proof_text has_pending p.range)

-- the same with a chunk of so many bytes
abbrev pub operation_at : Bool → ℕ → ℕ → ℕ → List ℕ → Answer OperationProof
operation_at has_pending d size most bytes =
    location_at bytes >>= λ location. front_at size location.1 >>= λ chunk.
    range_proof_at has_pending d most chunk.1 >>= λ range.
    Ok (record { location = location.0; chunk = chunk.0; range = range.0 }, range.1)

-- the same for a size that is known at run time: another size than chunks may have is refused first
abbrev pub sized_operation_at : Bool → ℕ → ℕ → ℕ → List ℕ → Answer OperationProof
sized_operation_at has_pending d size most bytes =
    if halves size size && leb size (2 ^ 59) then operation_at has_pending d size most bytes
    else Err (Invalid (codes "current proof") (codes "invalid bitmap chunk size"))

-- a proof that a reader of at most so many digests admits
pub record IsAdmittedRangeProof (has_pending : Bool) (most : ℕ) (p : RangeProof) : Type 0 where
  pub range : IsAdmitted most p.range
  pub pending : IsPendingSlot has_pending p.pending

pub record IsAdmittedOperation (has_pending : Bool) (most : ℕ) (p : OperationProof) : Type 0 where
  pub location : p.location ≤ max_leaves
  pub range : IsAdmittedRangeProof has_pending most p.range

-- and one with a chunk of so many bytes
pub record IsAdmittedArray (has_pending : Bool) (size most : ℕ) (p : OperationProof) : Type 0 where
  pub proof : IsAdmittedOperation has_pending most p
  pub chunk : length p.chunk ≡ size

-- and of a size that chunks may have
pub record IsAdmittedSized (has_pending : Bool) (size most : ℕ) (p : OperationProof) : Type 0 where
  pub array : IsAdmittedArray has_pending size most p
  pub size_is : IsChunkSize size
