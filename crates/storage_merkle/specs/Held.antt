-- The proofs of the definitions that proof values hold.
use Rattle.std.specs.Prelude.{ℕ, List, map}
use Rattle.storage_merkle.specs.RangeProofs.{Proof as ProofOf}
use Rattle.storage_merkle.specs.declared.merkle.proof.Proof.{Proof}
use Rattle.storage_merkle.specs.declared.merkle.proof.lent.LentProof.{LentProof}

-- a range proof, its digests by their bytes
abbrev pub proof_of : {F D : Type 0} → (D → List ℕ) → Proof F D → ProofOf
proof_of bytes_of p = record { leaves = p.leaves; inactive = p.inactive_peaks; digests = map bytes_of p.digests.items }

-- a range proof whose digests are lent
abbrev pub lent_proof_of : {F D : Type 0} → (D → List ℕ) → LentProof F D → ProofOf
lent_proof_of bytes_of p = record { leaves = p.leaves; inactive = p.inactive_peaks; digests = map bytes_of p.digests.now }
