-- Exclusion proofs that are equal, by cases.
use Rattle.std.proofs.Common.{Bool, List, ℕ, ap₂, sym, ◌∙◌}
use Rattle.std.specs.Option.{option_eq}
use Rattle.std.specs.Cmp.Derive.{both_true}
use Rattle.std.proofs.lemmas.Bool.{and_parts}
use Rattle.storage_merkle.specs.Equality.{AnswersAs, EqualAsSeen}
use Rattle.storage_merkle.specs.Laws.Equality.{equal_options}
use Rattle.storage_ops.specs.declared.qmdb.any.operation.update.ordered.Update.{Update}
use Rattle.storage_current.specs.declared.qmdb.current.ordered.exclusion.ExclusionProof.{ExclusionProof}
use Rattle.storage_current.specs.declared.qmdb.current.ordered.exclusion.ExclusionProof.TheVariants as code
use Rattle.storage_current.specs.declared.qmdb.current.proof.operation.Proof.{Proof}
use Rattle.storage_current.specs.Equality.{exclusion_eq}
use Rattle.storage_current.specs.Held.{operation_proof_of}
use Rattle.storage_current.specs.HeldKeys.{exclusion_of, exclusion_seen}
use Rattle.storage_current.specs.KeyProofs.{KeyValue, Commit}

module _ {F K V D C A W B X Y : Type 0} (text : D → List ℕ) (bytes : C → List ℕ) (key : K → X) (value : W → Y)
    {proof_eq : Proof F D C → Proof F D C → Bool} (proofs : EqualAsSeen proof_eq (operation_proof_of text bytes))
    {update_eq : Update K V A W B → Update K V A W B → Bool}
    (updates : EqualAsSeen {X = X × Y × X} update_eq (λ u. (key u.key, value u.value, key u.next_key)))
    {value_eq : W → W → Bool} (values : EqualAsSeen value_eq value) where
  by_cases : EqualAsSeen {A = ExclusionProof F K V D C A W B} (exclusion_eq proof_eq update_eq value_eq)
      (λ x. exclusion_seen key value (exclusion_of text bytes x))
  by_cases (code.KeyValue p u) (code.KeyValue q v) = (
    λ t. let both = and_parts (proof_eq p q) (update_eq u v) t in
        ap₂ KeyValue ((proofs p q).0 both.0) ((updates u v).0 both.1),
    λ e. both_true ((proofs p q).1 (cc)) ((updates u v).1 (cc)),
  )
  by_cases (code.KeyValue p u) (code.Commit q b) = (λ t. cc, λ e. cc)
  by_cases (code.Commit p a) (code.KeyValue q v) = (λ t. cc, λ e. cc)
  by_cases (code.Commit p a) (code.Commit q b) = (
    λ t. let both = and_parts (proof_eq p q) (option_eq value_eq a b) t in
        ap₂ Commit ((proofs p q).0 both.0) ((equal_options values a b).0 both.1),
    λ e. both_true ((proofs p q).1 (cc)) ((equal_options values a b).1 (cc)),
  )

  pub exclusions_seen : (eq : ExclusionProof F K V D C A W B → ExclusionProof F K V D C A W B → Bool)
      → AnswersAs eq (exclusion_eq proof_eq update_eq value_eq)
      → EqualAsSeen eq (λ x. exclusion_seen key value (exclusion_of text bytes x))
  exclusions_seen eq answers x y = (
    λ t. (by_cases x y).0 (sym (answers x y) ∙ t),
    λ e. answers x y ∙ (by_cases x y).1 e,
  )
