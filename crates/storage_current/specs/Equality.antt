-- Equality of exclusion proofs: what `==` answers, by cases.
use Rattle.std.specs.Prelude.{◌&&◌, Bool, false}
use Rattle.std.specs.Option.{option_eq}
use Rattle.storage_ops.specs.declared.qmdb.any.operation.update.ordered.Update.{Update}
use Rattle.storage_current.specs.declared.qmdb.current.ordered.exclusion.ExclusionProof.{ExclusionProof}
use Rattle.storage_current.specs.declared.qmdb.current.ordered.exclusion.ExclusionProof.TheVariants.{KeyValue, Commit}
use Rattle.storage_current.specs.declared.qmdb.current.proof.operation.Proof.{Proof}

-- the same case, with equal parts
abbrev pub exclusion_eq : {F K V D C A W B : Type 0} → (Proof F D C → Proof F D C → Bool)
    → (Update K V A W B → Update K V A W B → Bool) → (W → W → Bool) → ExclusionProof F K V D C A W B
    → ExclusionProof F K V D C A W B → Bool
exclusion_eq proof update value (KeyValue p u) (KeyValue q v) = proof p q && update u v
exclusion_eq proof update value (Commit p a) (Commit q b) = proof p q && option_eq value a b
exclusion_eq proof update value x y = false
