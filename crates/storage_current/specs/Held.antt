-- The proofs of the definitions that proof values hold.
use Rattle.std.specs.Prelude.{◌≡◌, ℕ, List, option_map}
use Rattle.storage_merkle.specs.Held.{proof_of}
use Rattle.storage_current.specs.Snapshots.{RangeProof as RangeProofOf, OperationProof}
use Rattle.storage_current.specs.declared.qmdb.current.proof.RangeProof.{RangeProof}
use Rattle.storage_current.specs.declared.qmdb.current.proof.operation.Proof.{Proof as OneProof}

-- a proof of current operations, its digests by their bytes
abbrev pub range_proof_of : {F D : Type 0} → (D → List ℕ) → RangeProof F D → RangeProofOf
range_proof_of bytes_of p = record {
  range = proof_of bytes_of p.proof;
  pending = option_map bytes_of p.pending_chunk_digest;
  partial = option_map bytes_of p.partial_chunk_digest;
  ops_root = bytes_of p.ops_root;
}

-- an operation proof, its chunk by its bytes
abbrev pub operation_proof_of : {F D C : Type 0} → (D → List ℕ) → (C → List ℕ) → OneProof F D C → OperationProof
operation_proof_of bytes_of bytes p = record { location = p.loc; chunk = bytes p.chunk; range = range_proof_of bytes_of p.range_proof }

-- the bytes of a clone are those of its source
abbrev pub ClonesAreEqual : {C : Type 0} → (C → C → Type 0) → (C → List ℕ) → Type 0
ClonesAreEqual {C} is_clone bytes = (x y : C) → is_clone x y → bytes y ≡ bytes x
