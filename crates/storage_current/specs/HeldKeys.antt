-- The proofs about keys of the definitions that proof values hold.
use Rattle.std.specs.Prelude.{ℕ, List, option_map}
use Rattle.storage_current.specs.Held.{operation_proof_of}
use Rattle.storage_current.specs.KeyProofs.{Exclusion}
use Rattle.storage_current.specs.KeyProofs as of
use Rattle.storage_current.specs.declared.qmdb.current.ordered.exclusion.ExclusionProof.{ExclusionProof}
use Rattle.storage_current.specs.declared.qmdb.current.ordered.exclusion.ExclusionProof.TheVariants as code

-- an exclusion proof, its operation proof by its bytes
abbrev pub exclusion_of : {F K V D C A W B : Type 0} → (D → List ℕ) → (C → List ℕ) → ExclusionProof F K V D C A W B
    → Exclusion (K × W × K) W
exclusion_of bytes_of bytes (code.KeyValue proof update) = of.KeyValue (operation_proof_of bytes_of bytes proof)
    (update.key, update.value, update.next_key)
exclusion_of bytes_of bytes (code.Commit proof value) = of.Commit (operation_proof_of bytes_of bytes proof) value

-- an exclusion as its keys and values are seen
abbrev pub exclusion_seen : {K W A B : Type 0} → (K → A) → (W → B) → Exclusion (K × W × K) W → Exclusion (A × B × A) B
exclusion_seen key value (of.KeyValue proof update) = of.KeyValue proof (key update.0, value update.1, key update.2)
exclusion_seen key value (of.Commit proof v) = of.Commit proof (option_map value v)
